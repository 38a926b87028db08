-- The chunk of a served rung: a place of the table is free for it, it stands in the region clear of the others, and it has room for its request.
-- Assumes nothing.
use Prim.Native.Nat.{ℕ, ◌+◌, ◌≤◌, ◌<◌, ◌∣◌, max}
use native.Mathlib.Nat.{dvd_trans, le-max_left}
use native.Mathlib.Omega.{arith}
use mathlib.Core.Bool.{Bool, true, false, cond, ◌&&◌}
use mathlib.Core.List.{List}
use mathlib.Core.Logic.{inl, inr, ⊎_elim}
use Rattle.std.specs.Prelude.{None, Some, option_map}
use Rattle.rounding.proofs.Optional.{mapped_some}
use mathlib.Core.Path.{◌≡◌, refl, sym, subst}
use lib.Dec.{ltb}
use lib.ListN.{length}
use borrow.Author.Tests.{ltb-true}
use Rattle.rounding.specs.Round.{round_down, round_up}
use Rattle.rounding.proofs.Powers.{Power, two-to-the, power_divides}
use Rattle.arena.specs.declared.Head.{Head}
use Rattle.arena.specs.declared.Chunk.{Chunk}
use Rattle.arena.specs.Numbers.{places, step, largest_minimum}
use Rattle.arena.specs.Record.{end_of}
use Rattle.arena.specs.Sizing.{place_align, usable}
use Rattle.arena.specs.Placing.{lowest_place}
use Rattle.arena.specs.Ladder.{held_bytes, under_limit, new_chunk, served_with, rung_chunk}
use Rattle.rounding.proofs.Every.{every_map}
use Rattle.arena.proofs.Lowest.{lowest-fits}
use Rattle.arena.proofs.Usable.{place-align-power, place-align-positive, usable-step, usable-room}
use Rattle.arena.proofs.Standing.{Fresh}

-- what being served says
pub record ServedAt (h : Head) (cs : List Chunk) (a n : ℕ) (c : Chunk) : Type 0 where
  pub place-free : length cs < places
  pub under-limit : under_limit h (held_bytes cs) n ≡ true
  pub placed : lowest_place h.region cs a n ≡ Some c.start
  pub size_is : c.size ≡ n
  pub at-end : c.pointer ≡ end_of c

module _ (h : Head) (cs : List Chunk) (a n : ℕ) where
  pub served-open : {c : Chunk} → served_with h cs a n ≡ Some c → ServedAt h cs a n c
  unfolding served_with
  served-open {c} e = go (under_limit h (held_bytes cs) n) refl (ltb (length cs) places) refl e
    where
      go : (t : Bool) → under_limit h (held_bytes cs) n ≡ t → (u : Bool) → ltb (length cs) places ≡ u →
          cond (t && u) (option_map (new_chunk n) (lowest_place h.region cs a n)) None ≡ Some c → ServedAt h cs a n c
      go false p u q r = absurd (let z : ◌≡◌ {A = ℕ} 0 1 = cc in omega arith)
      go true p false q r = absurd (let z : ◌≡◌ {A = ℕ} 0 1 = cc in omega arith)
      go true p true q r =
          let found = mapped_some (new_chunk n) (lowest_place h.region cs a n) r in
          subst (ServedAt h cs a n) found.2
          (record {
            place-free = ltb-true (length cs) places q;
            under-limit = p;
            placed = found.1;
            size_is = refl;
            at-end = refl;
          })

module _ (h : Head) (cs : List Chunk) (size : ℕ) {align : ℕ} (base : ℕ) (power : Power align) where
  pub rung-open : {c : Chunk} → rung_chunk h cs size align base ≡ Some c → ServedAt h cs (place_align align) (usable base size align) c
  unfolding rung_chunk
  rung-open e = served-open h cs (place_align align) (usable base size align) e

  pub rung-placed : {c : Chunk} → rung_chunk h cs size align base ≡ Some c → place_align align ∣ c.start
  rung-placed {c} e = (lowest-fits h.region cs (usable base size align) (place-align-positive align) (rung-open e).placed).0

  pub rung-fresh : {c : Chunk} → rung_chunk h cs size align base ≡ Some c → Fresh h cs c
  rung-fresh {c} e =
      let served = rung-open e in
      let fitting = (lowest-fits h.region cs (usable base size align) (place-align-positive align) served.placed).1 in
      record {
        start-multiple = dvd_trans step (power_divides (two-to-the 4) (place-align-power power) (le-max_left step align)) (rung-placed e);
        size-multiple = subst (λ (n : ℕ). step ∣ n) (sym served.size_is) (usable-step base size align);
        inside = omega (arith, fitting.inside, served.size_is);
        at-end = served.at-end;
        clear = every_map (λ d m. ⊎_elim (λ l. inl (omega (arith, served.size_is))) (λ l. inr l) m) cs fitting.clear;
        place-free = served.place-free;
      }

  -- below its end, rounded down to the alignment, the needed bytes stand at or above its start
  pub rung-room : {c : Chunk} {minimum : ℕ} → rung_chunk h cs size align base ≡ Some c → Power minimum → minimum ≤ largest_minimum →
      c.start + round_up size (max align minimum) ≤ round_down c.pointer align
  rung-room {c} {minimum} e pm l =
      let served = rung-open e in
      let end : c.pointer ≡ c.start + usable base size align = cc in
      rw end (usable-room c.start base size power pm l (rung-placed e))
