-- Which calls need new room: a grow gives nothing exactly where neither way does; a shrink to a higher alignment that the offset has not is a fresh
-- block, and every other shrink gives a block; a resize is one of the three. Assumes nothing.
use Prim.Native.Nat.{ℕ, ◌+◌, ◌/◌, ◌≤◌, ◌<◌, ◌∣◌}
use native.Mathlib.Omega.{arith}
use mathlib.Core.Bool.{Bool, true, false, cond, ◌&&◌}
use mathlib.Core.List.{List, [], ◌∷◌}
use mathlib.Core.Logic.{◌⊎◌, ⊎_elim}
use Rattle.std.specs.Prelude.{Option, None, Some}
use Rattle.rounding.proofs.Optional.{some-none}
use mathlib.Core.Path.{◌≡◌, refl, sym, ap, ◌∙◌}
use lib.Dec.{leb, ltb, eqb}
use borrow.Author.Tests.{lt-ltb, le-ltb, le-leb, lt-leb, eq-eqb, ne_eqb}
use Rattle.rounding.specs.Round.{multiple}
use Rattle.rounding.proofs.Tests.{refute}
use Rattle.rounding.proofs.Rounding.{multiple-dvd, dvd-multiple}
use Rattle.arena.specs.declared.Head.{Head}
use Rattle.arena.specs.declared.Chunk.{Chunk}
use Rattle.calls.specs.Allocate.{Taken, at_pointer, allocate_in}
use Rattle.calls.specs.Grow.{grown_in_place, or_afresh, grow_in}
use Rattle.calls.specs.Shrink.{stays, given_up, moved_up, shrunk_in_place, shrink_in}
use Rattle.calls.specs.Resize.{resize_in}

module _ (h : Head) (cs : List Chunk) (offset old old_align new new_align : ℕ) where
  pub grow-nothing : grow_in h cs offset old old_align new new_align ≡ None →
      (grown_in_place h.minimum cs offset old old_align new new_align ≡ None) × (allocate_in h cs new new_align ≡ None)
  unfolding grow_in or_afresh
  grow-nothing e = go (grown_in_place h.minimum cs offset old old_align new new_align) refl
    where
      go : (o : Option Taken) → grown_in_place h.minimum cs offset old old_align new new_align ≡ o →
          (grown_in_place h.minimum cs offset old old_align new new_align ≡ None) × (allocate_in h cs new new_align ≡ None)
      go None p = (p, ap (or_afresh h cs new new_align) (sym p) ∙ e)
      go (Some t) p = absurd (some-none t (ap (or_afresh h cs new new_align) (sym p) ∙ e))

  pub nothing-grows : grown_in_place h.minimum cs offset old old_align new new_align ≡ None → allocate_in h cs new new_align ≡ None →
      grow_in h cs offset old old_align new new_align ≡ None
  unfolding grow_in or_afresh
  nothing-grows p q = ap (or_afresh h cs new new_align) p ∙ q

  -- a block in place of the shrunk one, always
  in-place-something : (ds : List Chunk) (d : ℕ) → shrunk_in_place ds offset old d ≡ None → ⊥
  unfolding shrunk_in_place at_pointer moved_up
  in-place-something [] d e = some-none _ e
  in-place-something (c ∷ ds) d e = go (eqb offset c.pointer && leb ((old + 1) / 2) d) e
    where
      go : (b : Bool) → cond b (moved_up (c ∷ ds) offset d) (stays (c ∷ ds) offset) ≡ None → ⊥
      go true q = some-none _ q
      go false q = some-none _ q

  pub shrink-afresh : old_align < new_align → ¬ (new_align ∣ offset) → shrink_in h cs offset old old_align new new_align ≡ allocate_in h cs new new_align
  unfolding shrink_in
  shrink-afresh l off =
      let higher = lt-ltb old_align new_align l in
      let elsewhere = refute (multiple new_align offset) (λ t. off (multiple-dvd new_align offset t)) in
      rw (higher, elsewhere)

  pub shrink-something : (new_align ≤ old_align) ⊎ (new_align ∣ offset) → shrink_in h cs offset old old_align new new_align ≡ None → ⊥
  unfolding shrink_in
  shrink-something reason e = go (ltb old_align new_align) refl e
    where
      inner : Option Taken
      inner = cond (multiple new_align offset) (stays cs offset) (allocate_in h cs new new_align)

      go : (b : Bool) → ltb old_align new_align ≡ b →
          cond b inner (shrunk_in_place cs offset old (given_up h.minimum old new new_align)) ≡ None → ⊥
      go false p q = in-place-something cs (given_up h.minimum old new new_align) q
      go true p q =
          ⊎_elim
          (λ l. let z : true ≡ false = sym p ∙ le-ltb old_align new_align l in let y : ◌≡◌ {A = ℕ} 0 1 = cc in omega arith)
          (λ d. some-none _ (ap (λ (b : Bool). cond b (stays cs offset) (allocate_in h cs new new_align)) (sym (dvd-multiple new_align d)) ∙ q))
          reason

module _ (h : Head) (cs : List Chunk) (offset old align new : ℕ) where
  pub resize-afresh : old ≡ 0 → resize_in h cs offset old align new ≡ allocate_in h cs new align
  unfolding resize_in
  resize-afresh e = rw (eq-eqb old 0 e)

  pub resize-down : 0 < old → new ≤ old → resize_in h cs offset old align new ≡ shrink_in h cs offset old align new align
  unfolding resize_in
  resize-down p l =
      let not-empty = ne_eqb old 0 (λ e. omega arith) in
      let down = le-leb new old l in
      rw (not-empty, down)

  pub resize-up : 0 < old → old < new → resize_in h cs offset old align new ≡ grow_in h cs offset old align new align
  unfolding resize_in
  resize-up p l =
      let not-empty = ne_eqb old 0 (λ e. omega arith) in
      let up = lt-leb new old l in
      rw (not-empty, up)
