-- What creation comes to, clause by clause of its definition. Assumes nothing.
use Prim.Native.Nat.{ℕ, ◌≤◌, ◌<◌}
use mathlib.Core.Bool.{true, false}
use mathlib.Core.List.{[], ◌∷◌}
use Rattle.std.specs.Prelude.{Option, None, Some, option_map}
use mathlib.Core.Path.{◌≡◌, refl, ◌∙◌, ap}
use borrow.Author.Tests.{lt-ltb, le-ltb, ne_eqb}
use Rattle.rounding.proofs.Tests.{true-not, false-not}
use Rattle.arena.specs.declared.Chunk.{Chunk}
use Rattle.std.specs.Prelude.{Ok}
use Rattle.arena.specs.declared.Refusal.{Refusal}
use Rattle.arena.specs.declared.Refusal.TheVariants.{Region, Size, Align, Room}
use Rattle.arena.specs.Numbers.{most, default_size}
use Rattle.arena.specs.Record.{holding}
use Rattle.arena.specs.Refusals.{refused_by, in_order}
use Rattle.arena.specs.Sound.{allowed_minimum}
use Rattle.arena.specs.Ladder.{rung_chunk}
use Rattle.arena.specs.Creation.{fresh_head, refused_creation, creation_tests, first_chunks, created_with, creation, created_of}
use Rattle.arena.proofs.Refusing.{refused-now, refused-later, none-applies}

-- creation's tests stand in number order, so that the lowest that applies is answered
pub creation-in-order : (region minimum capacity : ℕ) → in_order (creation_tests region minimum capacity) ≡ true
unfolding in_order
creation-in-order region minimum capacity = refl

module _ (region minimum capacity : ℕ) where
  by-refusal : {o : Option Refusal} → refused_by (creation_tests region minimum capacity) ≡ o →
      created_of region minimum capacity ≡ creation o (fresh_head region minimum) capacity
  unfolding created_of
  by-refusal e = ap (λ o. creation o (fresh_head region minimum) capacity) e

  pub region-too-long : most < region → created_of region minimum capacity ≡ refused_creation Region
  unfolding creation
  region-too-long l = by-refusal (refused-now _ _ (lt-ltb most region l))

  pub capacity-too-large : region ≤ most → most < capacity → created_of region minimum capacity ≡ refused_creation Size
  unfolding creation
  capacity-too-large r l = by-refusal (refused-later _ _ (le-ltb most region r) ∙ refused-now _ _ (lt-ltb most capacity l))

  pub minimum-not-allowed : region ≤ most → capacity ≤ most → allowed_minimum minimum ≡ false → created_of region minimum capacity ≡ refused_creation Align
  unfolding creation
  minimum-not-allowed r l m =
      by-refusal (refused-later _ _ (le-ltb most region r) ∙ refused-later _ _ (le-ltb most capacity l) ∙ refused-now _ _ (false-not m))

  module _ (r : region ≤ most) (l : capacity ≤ most) (m : allowed_minimum minimum ≡ true) where
    pub not-refused-made : created_of region minimum capacity ≡ created_with (fresh_head region minimum) (first_chunks (fresh_head region minimum) capacity)
    unfolding creation
    not-refused-made = by-refusal (none-applies _ (le-ltb most region r, (le-ltb most capacity l, (true-not m, tt))))

    pub made-empty : capacity ≡ 0 → created_of region minimum capacity ≡ record { answer = Ok tt; arena = holding (fresh_head region minimum) [] }
    unfolding created_with first_chunks
    made-empty e = rw (not-refused-made, e)

    module _ (some-capacity : capacity ≡ 0 → ⊥) where
      by-rung : {o : Option Chunk} → rung_chunk (fresh_head region minimum) [] capacity minimum default_size ≡ o →
          created_of region minimum capacity ≡ created_with (fresh_head region minimum) (option_map (λ c. c ∷ []) o)
      unfolding first_chunks
      by-rung e = not-refused-made ∙ ap (created_with (fresh_head region minimum)) (rw (ne_eqb capacity 0 some-capacity, e))

      pub made-no-room : rung_chunk (fresh_head region minimum) [] capacity minimum default_size ≡ None → created_of region minimum capacity ≡ refused_creation Room
      unfolding created_with
      made-no-room e = by-rung e

      pub made_one : {c : Chunk} → rung_chunk (fresh_head region minimum) [] capacity minimum default_size ≡ Some c →
          created_of region minimum capacity ≡ record { answer = Ok tt; arena = holding (fresh_head region minimum) (c ∷ []) }
      unfolding created_with
      made_one e = by-rung e
