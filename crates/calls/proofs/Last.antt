-- The last block given out: where it lies in the current chunk no test of a named block refuses it, and none of a grow or a shrink of it. Assumes nothing.
use Prim.Native.Nat.{ℕ, ◌+◌, ◌≤◌}
use native.Mathlib.Omega.{arith}
use mathlib.Core.Bool.{Bool, true, false, cond, ◌&&◌}
use mathlib.Core.List.{List, ◌∷◌}
use Rattle.std.specs.Prelude.{None}
use mathlib.Core.Path.{◌≡◌, refl, ◌∙◌, ap}
use lib.Dec.{leb, eqb}
use borrow.Author.Tests.{le-leb, le-ltb, eq-eqb}
use Rattle.rounding.specs.Every.{any}
use Rattle.rounding.specs.Round.{multiple}
use Rattle.rounding.proofs.Tests.{and_both, or_left, or-neither, true-not}
use Rattle.arena.specs.declared.Arena.{Arena}
use Rattle.arena.specs.declared.Chunk.{Chunk}
use Rattle.arena.specs.Numbers.{most}
use Rattle.arena.specs.Record.{end_of, held_of}
use Rattle.arena.specs.Sound.{allowed_align}
use Rattle.arena.proofs.Refusing.{none-applies}
use Rattle.arena.proofs.Soundness.{ChunkSound}
use Rattle.calls.specs.Allocate.{at_pointer, given}
use Rattle.calls.specs.Grow.{grow_in, grow_tests, grow_of}
use Rattle.calls.specs.Inner.{LastBlock, GrowTested, ShrinkTested}
use Rattle.calls.specs.Shrink.{shrink_in, shrink_tests, shrink_of}
use Rattle.calls.specs.Tests.{has_block, acceptable}

-- a block at the pointer of a sound chunk
module _ {region minimum : ℕ} {c : Chunk} (offset size : ℕ) (s : ChunkSound region minimum c) (e : offset ≡ c.pointer) (l : offset + size ≤ end_of c) where
  has_last : has_block offset size c ≡ true
  unfolding has_block
  has_last = go (eqb size 0)
    where
      go : (b : Bool) → cond b (leb c.start offset && leb offset (end_of c)) (leb c.pointer offset && leb (offset + size) (end_of c)) ≡ true
      go true = and_both (le-leb c.start offset (omega (arith, s.above-start))) (le-leb offset (end_of c) (omega arith))
      go false = and_both (le-leb c.pointer offset (omega arith)) (le-leb (offset + size) (end_of c) l)

  pub last_block : (a : Arena) {cs : List Chunk} (align : ℕ) → held_of a ≡ c ∷ cs → region ≤ most → allowed_align align ≡ true → multiple align offset ≡ true →
      LastBlock a offset size align
  unfolding acceptable any at_pointer
  last_block a {cs} align held small allowed m =
      record {
        stands_at_pointer = ap (λ (ds : List Chunk). at_pointer ds offset) held ∙ eq-eqb offset c.pointer e;
        size_bound = omega (arith, s.inside);
        align_allowed = allowed;
        block = ap (λ (ds : List Chunk). acceptable ds offset size align) held ∙ and_both m (or_left _ has_last);
      }

module _ (a : Arena) (offset old old_align new new_align : ℕ) where
  pub last-grows : LastBlock a offset old old_align → GrowTested a old old_align new new_align →
      grow_of a a.head.region offset old old_align new new_align ≡ given None a (grow_in a.head (held_of a) offset old old_align new new_align)
  unfolding grow_of
  last-grows b t =
      let r = t.request in
      ap (λ o. given o a (grow_in a.head (held_of a) offset old old_align new new_align))
      (none-applies (grow_tests a a.head.region offset old old_align new new_align) (
        true-not r.sound,
        (
          true-not (eq-eqb a.head.region a.head.region refl),
          (
            or-neither (le-ltb most old b.size_bound) (le-ltb most new r.size_bound),
            (
              or-neither (true-not b.align_allowed) (true-not r.align_allowed),
              (true-not b.block, (le-ltb new old t.upwards, tt)),
            ),
          ),
        ),
      ))

  pub last-shrinks : LastBlock a offset old old_align → ShrinkTested a offset old new new_align →
      shrink_of a a.head.region offset old old_align new new_align ≡ given None a (shrink_in a.head (held_of a) offset old old_align new new_align)
  unfolding shrink_of
  last-shrinks b t =
      let r = t.request in
      ap (λ o. given o a (shrink_in a.head (held_of a) offset old old_align new new_align))
      (none-applies (shrink_tests a a.head.region offset old old_align new new_align) (
        true-not r.sound,
        (
          true-not (eq-eqb a.head.region a.head.region refl),
          (
            or-neither (le-ltb most old b.size_bound) (le-ltb most new r.size_bound),
            (
              or-neither (true-not b.align_allowed) (true-not r.align_allowed),
              (true-not b.block, (le-ltb old new t.downwards, tt)),
            ),
          ),
        ),
      ))
