-- What the code of shrink finds, stage by stage, is what its definition goes by. Assumes nothing.
use Prim.Native.Nat.{ℕ, ◌+◌, ◌/◌, ◌≤◌, ◌<◌}
use mathlib.Core.Bool.{Bool, true, false, cond, ◌&&◌}
use mathlib.Core.List.{List, [], ◌∷◌}
use mathlib.Core.Path.{◌≡◌, refl, ◌∙◌, ap}
use Rattle.std.specs.Prelude.{Some}
use lib.Dec.{leb}
use borrow.Author.Tests.{le-leb, lt-leb, lt-ltb, le-ltb}
use Rattle.rounding.specs.Round.{multiple}
use Rattle.rounding.proofs.Tests.{and_left, and_right, and_both, refute, true-false}
use Rattle.arena.specs.declared.Head.{Head}
use Rattle.arena.specs.declared.Chunk.{Chunk}
use Rattle.arena.specs.Inner.{moved_to}
use Rattle.calls.specs.Allocate.{at_pointer, allocate_in}
use Rattle.calls.specs.Shrink.{stays, given_up, moved_up, shrunk_in_place, shrink_in}

-- in place: the block stays, or it goes up with the pointer
module _ (cs : List Chunk) (offset old d : ℕ) where
  by-test : {b : Bool} → (at_pointer cs offset && leb ((old + 1) / 2) d) ≡ b → shrunk_in_place cs offset old d ≡ cond b (moved_up cs offset d) (stays cs offset)
  unfolding shrunk_in_place
  by-test e = ap (λ (b : Bool). cond b (moved_up cs offset d) (stays cs offset)) e

  pub stays-elsewhere : at_pointer cs offset ≡ false → shrunk_in_place cs offset old d ≡ stays cs offset
  stays-elsewhere f = by-test (refute _ (λ t. true-false (and_left (at_pointer cs offset) _ t) f))

  pub stays-near : d < (old + 1) / 2 → shrunk_in_place cs offset old d ≡ stays cs offset
  stays-near l = by-test (refute _ (λ t. true-false (and_right (at_pointer cs offset) _ t) (lt-leb ((old + 1) / 2) d l)))

  pub goes-up : at_pointer cs offset ≡ true → (old + 1) / 2 ≤ d →
      shrunk_in_place cs offset old d ≡ Some (record { offset = offset + d; chunks = moved_to cs (offset + d) })
  unfolding at_pointer moved_up moved_to
  goes-up t l = by-test (and_both t (le-leb ((old + 1) / 2) d l)) ∙ up cs t
    where
      up : (ds : List Chunk) → at_pointer ds offset ≡ true → moved_up ds offset d ≡ Some (record { offset = offset + d; chunks = moved_to ds (offset + d) })
      up [] u = absurd (true-false u refl)
      up (c ∷ ds) u = refl

module _ (h : Head) (cs : List Chunk) (offset old old_align new new_align : ℕ) where
  pub shrinks-in-place : new_align ≤ old_align → shrink_in h cs offset old old_align new new_align ≡ shrunk_in_place cs offset old (given_up h.minimum old new new_align)
  unfolding shrink_in
  shrinks-in-place l = rw (le-ltb old_align new_align l)

  pub shrinks-aligned : old_align < new_align → multiple new_align offset ≡ true → shrink_in h cs offset old old_align new new_align ≡ stays cs offset
  unfolding shrink_in
  shrinks-aligned l t = rw (lt-ltb old_align new_align l, t)

  pub shrinks-afresh : old_align < new_align → multiple new_align offset ≡ false → shrink_in h cs offset old old_align new new_align ≡ allocate_in h cs new new_align
  unfolding shrink_in
  shrinks-afresh l f = rw (lt-ltb old_align new_align l, f)
