-- What the code finds, stage by stage, is what the definition of allocate goes by: the current chunk's pointer, then the ladder's chunk.
-- Assumes nothing.
use Prim.Native.Nat.{ℕ, ◌+◌, ◌-◌, ◌≤◌, ◌<◌}
use native.Mathlib.Omega.{arith}
use mathlib.Core.Bool.{true, ◌&&◌}
use mathlib.Core.List.{List, [], ◌∷◌}
use Rattle.std.specs.Prelude.{Option, None, Some, option_map}
use Rattle.std.proofs.lemmas.Option.{none-some}
use mathlib.Core.Path.{◌≡◌, refl}
use lib.Dec.{leb}
use borrow.Author.Tests.{leb-true}
use Rattle.rounding.specs.Round.{round_down, one_bit}
use Rattle.rounding.proofs.First.{failed-only}
use Rattle.rounding.proofs.Tests.{refute, and_left, and_right}
use Rattle.rounding.proofs.Powers.{power-one-bit}
use Rattle.arena.specs.declared.Head.{Head}
use Rattle.arena.specs.declared.Arena.{Arena}
use Rattle.arena.specs.declared.Chunk.{Chunk}
use Rattle.arena.specs.Numbers.{most, largest_align, largest_minimum}
use Rattle.arena.specs.Record.{with_pointer}
use Rattle.arena.specs.Sound.{allowed_align, sound_of}
use Rattle.arena.specs.Ladder.{ladder}
use Rattle.arena.specs.Inner.{moved_to}
use Rattle.arena.proofs.Soundness.{sound-open, align-open}
use Rattle.calls.specs.Allocate.{Taken, needed, chunk_gives, current_gives, new_chunk_gives, or_ladder, allocate_in}
use Rattle.calls.specs.Inner.{current_pointer, Tested}

-- a sound record and a request that was tested
pub sound-tested : {a : Arena} {size align : ℕ} → sound_of a ≡ true → (size ≤ most) × (allowed_align align ≡ true) → Tested a size align
sound-tested s r = record { sound = s; size_bound = r.0; align_allowed = r.1 }

-- what the current chunk's arithmetic leans on
pub tested-bounds : {a : Arena} {size align : ℕ} → Tested a size align →
    (one_bit a.head.minimum ≡ true) × (a.head.minimum ≤ largest_minimum) × (one_bit align ≡ true) × (align ≤ largest_align) × (size ≤ most)
tested-bounds {a} {size} {align} t =
    let head = (sound-open a t.sound).head in
    let allowed = align-open align t.align_allowed in
    (power-one-bit head.minimum-power, head.minimum-bound, power-one-bit allowed.power, allowed.bound, t.size_bound)

module _ (minimum : ℕ) (c : Chunk) (size align : ℕ) where
  -- a chunk gives nothing where the needed bytes do not stand above its start
  pub chunk-lacks : round_down c.pointer align < c.start + needed minimum size align → chunk_gives minimum c size align ≡ None
  unfolding chunk_gives
  chunk-lacks l =
      let r = round_down c.pointer align in
      let n = needed minimum size align in
      failed-only (r - n)
      (refute (leb c.start r && leb n (r - c.start)) (λ t.
      let above = leb-true c.start r (and_left (leb c.start r) _ t) in
      let room = leb-true n (r - c.start) (and_right (leb c.start r) _ t) in
      omega arith))

  -- a new chunk's answer is the whole answer
  pub new-chunk-gives : (cs : List Chunk) {new : Option Chunk} {found : Option ℕ} → new ≡ Some c → chunk_gives minimum c size align ≡ found →
      new_chunk_gives minimum cs new size align ≡ option_map (λ p. record { offset = p; chunks = with_pointer c p ∷ cs }) found
  unfolding new_chunk_gives current_gives
  new-chunk-gives cs e f = rw (e, f)

module _ (minimum : ℕ) (cs : List Chunk) (size align : ℕ) where
  pub current-lacks : current_pointer minimum cs size align ≡ None → current_gives minimum cs size align ≡ None
  unfolding current_pointer current_gives
  current-lacks e = go cs e
    where
      go : (ds : List Chunk) → current_pointer minimum ds size align ≡ None → current_gives minimum ds size align ≡ None
      go [] f = refl
      go (c ∷ ds) f = rw f

  pub current-moved : {p : ℕ} → current_pointer minimum cs size align ≡ Some p →
      current_gives minimum cs size align ≡ Some (record { offset = p; chunks = moved_to cs p })
  unfolding current_pointer current_gives moved_to
  current-moved {p} e = go cs e
    where
      go : (ds : List Chunk) → current_pointer minimum ds size align ≡ Some p →
          current_gives minimum ds size align ≡ Some (record { offset = p; chunks = moved_to ds p })
      go [] f = absurd (none-some p f)
      go (c ∷ ds) f = rw f

module _ (h : Head) (cs : List Chunk) (size align : ℕ) where
  pub from-current : {t : Taken} → current_gives h.minimum cs size align ≡ Some t → allocate_in h cs size align ≡ Some t
  unfolding allocate_in or_ladder
  from-current e = rw e

  pub from-ladder : current_gives h.minimum cs size align ≡ None →
      allocate_in h cs size align ≡ new_chunk_gives h.minimum cs (ladder h cs size align) size align
  unfolding allocate_in or_ladder
  from-ladder e = rw e
