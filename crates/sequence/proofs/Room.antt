-- ROOM, exactly when: where no test refuses, a call answers ROOM exactly where its rules give nothing, and they give nothing exactly where neither the
-- current chunk nor a rung does. Assumes nothing.
use Prim.Native.Nat.{ℕ, ◌<◌}
use native.Mathlib.Nat.{le_refl}
use native.Mathlib.Omega.{arith}
use mathlib.Core.List.{List}
use mathlib.Core.Logic.{inl, inr, ◌↔◌, ⊎_elim}
use Rattle.std.specs.Prelude.{Option, None, Some}
use Rattle.std.proofs.lemmas.Option.{none-some}
use Rattle.rounding.proofs.Optional.{some-none}
use mathlib.Core.Path.{◌≡◌, refl, sym, ◌∙◌}
use Rattle.rounding.specs.Every.{Each}
use Rattle.arena.specs.declared.Arena.{Arena}
use Rattle.arena.specs.declared.Refusal.{Refusal}
use Rattle.arena.specs.Record.{held_of}
use Rattle.arena.specs.Refusals.{Test, number_of, refused_by}
use Rattle.arena.proofs.Standing.{Standing}
use Rattle.calls.specs.Allocate.{Taken, allocate_in, given, request_tests, allocate_of}
use Rattle.calls.specs.Grow.{grow_in, grow_of}
use Rattle.calls.specs.Shrink.{shrink_of}
use Rattle.calls.specs.Resize.{resize_of}
use Rattle.calls.specs.Token.{with_token_of}
use Rattle.calls.proofs.Passing.{refused-one, Request, request-passes, grow-passes, shrink-passes, resize-passes}
use Rattle.calls.proofs.Serving.{nothing-from-current, nothing-from-rungs, nothing-allocates}
use Rattle.calls.proofs.Needing.{grow-nothing, nothing-grows, shrink-afresh, shrink-something, resize-afresh, resize-down, resize-up}
use Rattle.sequence.specs.Ledger.{Live}
use Rattle.sequence.specs.Room.{CurrentTakes, CurrentGrows, RungTakes, RoomExactlyWhen, NeverRoom, RoomOfRequests, RoomOfBlock}

-- a refusal of another number than ROOM's
abbrev Other : Refusal → Type 0
Other r = (0 < number_of r) × (number_of r < 8)

module _ (a : Arena) (ts : List Test) (other : Each (λ t. Other t.refusal) ts) where
  room-when : (o : Option Taken) (current rung : Type 0) → (refused_by ts ≡ None → (o ≡ None) ↔ ((¬ current) × (¬ rung))) →
      RoomExactlyWhen (given (refused_by ts) a o).answer current rung
  unfolding given
  room-when o current rung exactly = go (refused_by ts) refl o exactly
    where
      go : (r : Option Refusal) → refused_by ts ≡ r → (p : Option Taken) → (r ≡ None → (p ≡ None) ↔ ((¬ current) × (¬ rung))) →
          RoomExactlyWhen (given r a p).answer current rung
      go (Some x) e p h otherwise =
          let number = refused-one Other ts other e in
          absurd (⊎_elim (λ z. omega arith) (λ z. omega arith) otherwise)
      go None e None h otherwise = ((λ z. (h refl).0 refl), (λ z. refl))
      go None e (Some t) h otherwise = ((λ z. absurd (omega arith)), (λ z. absurd (some-none t ((h refl).1 z))))

  never-when : (o : Option Taken) → (refused_by ts ≡ None → o ≡ None → ⊥) → NeverRoom (given (refused_by ts) a o).answer
  unfolding given
  never-when o something = go (refused_by ts) refl o something
    where
      go : (r : Option Refusal) → refused_by ts ≡ r → (p : Option Taken) → (r ≡ None → p ≡ None → ⊥) → NeverRoom (given r a p).answer
      go (Some x) e p h z =
          let number = refused-one Other ts other e in
          omega arith
      go None e None h z = h refl refl
      go None e (Some t) h z = omega arith

nothing : {A : Type 0} (o : Option A) → ((x : A) → o ≡ Some x → ⊥) → o ≡ None
nothing None h = refl
nothing (Some x) h = absurd (h x refl)

module _ (a : Arena) (s : Standing a.head (held_of a)) where
  fresh-when : {lent : ℕ} (size align : ℕ) → Request a lent size align →
      (allocate_in a.head (held_of a) size align ≡ None) ↔ ((¬ CurrentTakes a size align) × (¬ RungTakes a size align))
  fresh-when size align request = (none_left, none_found)
    where
      none_left : allocate_in a.head (held_of a) size align ≡ None → (¬ CurrentTakes a size align) × (¬ RungTakes a size align)
      none_left e =
          let no-rung = nothing-from-rungs s size align request.align_allowed.power request.size_bound e in (
            (λ takes. none-some takes.0 (sym (nothing-from-current s size align e) ∙ takes.1)),
            (λ takes. none-some takes.1 (sym (no-rung takes.0 takes.2) ∙ takes.3)),
          )

      none_found : (¬ CurrentTakes a size align) × (¬ RungTakes a size align) → allocate_in a.head (held_of a) size align ≡ None
      none_found (no-current, no-rung) =
          nothing-allocates s size align (nothing _ (λ t e. no-current (t, e)))
          (λ base rung. nothing _ (λ c e. no-rung (base, c, rung, e)))

  module _ (offset old old_align new new_align : ℕ) where
    grown-when : {lent : ℕ} → Request a lent new new_align →
        (grow_in a.head (held_of a) offset old old_align new new_align ≡ None) ↔ ((¬ CurrentGrows a offset old old_align new new_align) × (¬ RungTakes a new new_align))
    grown-when request = (none_left, none_found)
      where
        none_left : grow_in a.head (held_of a) offset old old_align new new_align ≡ None →
            (¬ CurrentGrows a offset old old_align new new_align) × (¬ RungTakes a new new_align)
        none_left e =
            let (in_place, afresh) = grow-nothing a.head (held_of a) offset old old_align new new_align e in
            let (no-current, no-rung) = (fresh-when new new_align request).0 afresh in
            (⊎_elim (λ takes. none-some takes.0 (sym in_place ∙ takes.1)) no-current, no-rung)

        none_found : (¬ CurrentGrows a offset old old_align new new_align) × (¬ RungTakes a new new_align) →
            grow_in a.head (held_of a) offset old old_align new new_align ≡ None
        none_found (no-current, no-rung) =
            nothing-grows a.head (held_of a) offset old old_align new new_align (nothing _ (λ t e. no-current (inl (t, e))))
            ((fresh-when new new_align request).1 ((λ takes. no-current (inr takes)), no-rung))

  pub room-of-requests : (lent : ℕ) → RoomOfRequests a lent
  unfolding allocate_of with_token_of
  room-of-requests lent = record { of_allocate = exactly; of_with_token = exactly }
    where
      exactly : (size align : ℕ) →
          RoomExactlyWhen (given (refused_by (request_tests a lent size align)) a (allocate_in a.head (held_of a) size align)).answer
          (CurrentTakes a size align) (RungTakes a size align)
      exactly size align = room-when a _ (omega arith) _ _ _ (λ r. fresh-when size align (request-passes a lent size align r))

  pub room-of-block : (lent : ℕ) (b : Live) → RoomOfBlock a lent b
  unfolding grow_of shrink_of resize_of
  room-of-block lent b =
      record {
        of_grow = λ new new_align.
            room-when a _ (omega arith) _ _ _
            (λ r. grown-when b.offset b.size b.align new new_align (grow-passes a lent b.offset b.size b.align new new_align r).request);
        of_shrink = λ new new_align higher off.
            room-when a _ (omega arith) _ _ _
            (λ r. rw (shrink-afresh a.head (held_of a) b.offset b.size b.align new new_align higher off)
            (fresh-when new new_align (shrink-passes a lent b.offset b.size b.align new new_align r).request));
        of_other_shrink = λ new new_align reason.
            never-when a _ (omega arith) _
            (λ r. shrink-something a.head (held_of a) b.offset b.size b.align new new_align reason);
        of_resize_afresh = λ new empty.
            room-when a _ (omega arith) _ _ _
            (λ r. rw (resize-afresh a.head (held_of a) b.offset b.size b.align new empty)
            (fresh-when new b.align (resize-passes a lent b.offset b.size b.align new r)));
        of_resize_up = λ new some_bytes up.
            room-when a _ (omega arith) _ _ _
            (λ r. rw (resize-up a.head (held_of a) b.offset b.size b.align new some_bytes up)
            (grown-when b.offset b.size b.align new b.align (resize-passes a lent b.offset b.size b.align new r)));
        of_resize_down = λ new some_bytes down.
            never-when a _ (omega arith) _
            (λ r e. shrink-something a.head (held_of a) b.offset b.size b.align new b.align (inl (le_refl b.align))
            (sym (resize-down a.head (held_of a) b.offset b.size b.align new some_bytes down) ∙ e));
      }
