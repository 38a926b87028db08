-- What allocate gives: a block carved from the current chunk, or from a new one that became current. Where it gives nothing, the current chunk
-- gives nothing and no rung is served, since the chunk of a served rung always has room. Assumes nothing.
use Prim.Native.Nat.{ℕ, ◌^◌, ◌≤◌, ◌<◌}
use native.Mathlib.Omega.{arith}
use mathlib.Core.List.{List, [], ◌∷◌}
use Rattle.std.specs.Prelude.{Option, None, Some}
use Rattle.std.proofs.lemmas.Option.{none-some}
use mathlib.Core.Path.{◌≡◌, refl, sym, ap, ◌∙◌}
use Rattle.rounding.proofs.Every.{every_map}
use Rattle.rounding.proofs.Powers.{Power}
use Rattle.arena.specs.declared.Head.{Head}
use Rattle.arena.specs.declared.Chunk.{Chunk}
use Rattle.arena.specs.Numbers.{most}
use Rattle.arena.specs.Ladder.{first_base, Rung, rung_chunk, ladder}
use Rattle.arena.proofs.Rungs.{first-base-bound, ladder-served, ladder-nothing, no-rung-served}
use Rattle.arena.proofs.Standing.{Standing, Fresh, standing-pushed}
use Rattle.arena.proofs.Served.{rung-fresh, rung-room}
use Rattle.calls.specs.Allocate.{Taken, current_gives, new_chunk_gives, or_ladder, allocate_in}
use Rattle.calls.proofs.Carving.{TakenFrom, current-carves, current-gives}

-- a block of this size and alignment that these chunks give, from the current one or from a new one
pub data Served (h : Head) (size align : ℕ) (t : Taken) : List Chunk → Type 0 where
  by-current : {c : Chunk} {cs : List Chunk} → TakenFrom h.minimum c cs size align t → Served h size align t (c ∷ cs)
  by-new : {cs : List Chunk} (c : Chunk) → Fresh h cs c → TakenFrom h.minimum c cs size align t → Served h size align t cs

module _ {h : Head} {size align : ℕ} (power : Power align) where
  pub current-served : (cs : List Chunk) → Standing h cs → {t : Taken} → current_gives h.minimum cs size align ≡ Some t → Served h size align t cs
  unfolding current_gives
  current-served [] s {t} e = absurd (none-some t e)
  current-served (c ∷ cs) s e = by-current (current-carves h.minimum c cs size align s.settings.minimum-power power s.chunks.0.pointer-multiple e)

  pub allocate-serves : (cs : List Chunk) → Standing h cs → {t : Taken} → allocate_in h cs size align ≡ Some t → Served h size align t cs
  unfolding allocate_in or_ladder new_chunk_gives
  allocate-serves cs s {t} e = go (current_gives h.minimum cs size align) refl (ladder h cs size align) refl e
    where
      go : (current : Option Taken) → current_gives h.minimum cs size align ≡ current →
          (new : Option Chunk) → ladder h cs size align ≡ new →
          or_ladder h cs size align current ≡ Some t → Served h size align t cs
      go (Some u) p new q r = current-served cs s (p ∙ r)
      go None p None q r = absurd (none-some t (ap (λ (o : Option Chunk). new_chunk_gives h.minimum cs o size align) (sym q) ∙ r))
      go None p (Some c) q r =
          let rung = ladder-served h cs size align q in
          let fresh = rung-fresh h cs size rung.base power rung.gives in
          let pushed = standing-pushed s fresh in
          by-new c fresh
          (current-carves h.minimum c cs size align s.settings.minimum-power power pushed.chunks.0.pointer-multiple
          (ap (λ (o : Option Chunk). new_chunk_gives h.minimum cs o size align) (sym q) ∙ r))

module _ {h : Head} {cs : List Chunk} (s : Standing h cs) (size align : ℕ) where
  -- where allocate gives nothing, the current chunk gives nothing and no rung is served
  pub nothing-from-current : allocate_in h cs size align ≡ None → current_gives h.minimum cs size align ≡ None
  unfolding allocate_in or_ladder
  nothing-from-current e = go (current_gives h.minimum cs size align) refl
    where
      go : (current : Option Taken) → current_gives h.minimum cs size align ≡ current → current_gives h.minimum cs size align ≡ None
      go None p = p
      go (Some t) p = absurd (none-some t (sym e ∙ ap (or_ladder h cs size align) p))

  pub nothing-from-rungs : Power align → size ≤ most → allocate_in h cs size align ≡ None →
      (base : ℕ) → Rung h cs size base → rung_chunk h cs size align base ≡ None
  unfolding allocate_in or_ladder new_chunk_gives
  nothing-from-rungs power l e =
      no-rung-served h cs size align small (go (ladder h cs size align) refl)
    where
      small : first_base cs size < 2 ^ 63
      small = omega (arith, first-base-bound cs (every_map (λ c x. x.inside) cs s.chunks) s.settings.region_bound l)

      without : or_ladder h cs size align None ≡ None
      without = ap (or_ladder h cs size align) (sym (nothing-from-current e)) ∙ e

      go : (new : Option Chunk) → ladder h cs size align ≡ new → ladder h cs size align ≡ None
      go None q = q
      go (Some c) q =
          let rung = ladder-served h cs size align q in
          let room = rung-room h cs size rung.base power rung.gives s.settings.minimum-power s.settings.minimum-bound in
          let gives = current-gives h.minimum c cs size align room in
          absurd (none-some gives.0 (sym without ∙ ap (λ (o : Option Chunk). new_chunk_gives h.minimum cs o size align) q ∙ gives.1))

  -- and the other way round
  pub nothing-allocates : current_gives h.minimum cs size align ≡ None → ((base : ℕ) → Rung h cs size base → rung_chunk h cs size align base ≡ None) →
      allocate_in h cs size align ≡ None
  unfolding allocate_in or_ladder new_chunk_gives
  nothing-allocates p no-rung =
      ap (or_ladder h cs size align) p
      ∙ ap (λ (o : Option Chunk). new_chunk_gives h.minimum cs o size align) (ladder-nothing h cs size align no-rung)
