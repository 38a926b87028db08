-- A call is refused otherwise only for what it asks: of a sound record and a live block no other test applies. Assumes nothing.
use Prim.Native.Nat.{ℕ, ◌≤◌}
use mathlib.Core.Bool.{Bool, true, false, not, ◌&&◌, ◌||◌}
use mathlib.Core.Logic.{inl, inr}
use Rattle.std.specs.Prelude.{Option, None, Some, Ok}
use mathlib.Core.Path.{◌≡◌, refl, ap}
use lib.Dec.{ltb, eqb}
use borrow.Author.Tests.{le-ltb, eq-eqb}
use Rattle.rounding.proofs.Tests.{or-neither, true-not}
use Rattle.arena.specs.declared.Arena.{Arena}
use Rattle.arena.specs.declared.Refusal.{Refusal}
use Rattle.arena.specs.Numbers.{most}
use Rattle.arena.specs.Refusals.{refused_by, answered}
use Rattle.arena.specs.Sound.{allowed_align, sound_of}
use Rattle.arena.proofs.Refusing.{none-applies}
use Rattle.calls.specs.declared.Token.{Token}
use Rattle.calls.specs.Allocate.{Taken, given, request_tests, allocate_of}
use Rattle.calls.specs.Free.{free_of}
use Rattle.calls.specs.Grow.{grow_of}
use Rattle.calls.specs.Shrink.{shrink_of}
use Rattle.calls.specs.Resize.{resize_of}
use Rattle.calls.specs.Token.{cancel_of, with_token_of}
use Rattle.calls.specs.Write.{lend_answer, lend_of}
use Rattle.sequence.specs.Ledger.{Live}
use Rattle.sequence.specs.Room.{NotRefusedOtherwise}
use Rattle.sequence.specs.Heard.{Allowed, Heard, CancelDone, HeardOfBlock}
use Rattle.sequence.specs.Demand.{Accepted, TokenAccepted}

given-heard : {r : Option Refusal} (a : Arena) (o : Option Taken) → r ≡ None → NotRefusedOtherwise (given r a o).answer
unfolding given
given-heard a None e = rw e (inr refl)
given-heard a (Some t) e = rw e (inl refl)

answered-done : {r : Option Refusal} (a changed : Arena) → r ≡ None → (answered r a changed).answer ≡ (Ok tt)
unfolding answered
answered-done a changed e = rw e

not-both : (a : Bool) {b : Bool} → b ≡ false → (a && b) ≡ false
not-both true e = e
not-both false e = refl

module _ (a : Arena) (lent : ℕ) (sound : sound_of a ≡ true) (region : lent ≡ a.head.region) where
  lent-whole : not (eqb lent a.head.region) ≡ false
  lent-whole = true-not (eq-eqb lent a.head.region region)

  request-heard : (size align : ℕ) → Allowed size align → refused_by (request_tests a lent size align) ≡ None
  request-heard size align (small, allowed) =
      none-applies _ (true-not sound, (lent-whole, (le-ltb most size small, (true-not allowed, tt))))

  pub requests-heard : Heard a lent
  unfolding allocate_of with_token_of
  requests-heard =
      record {
        of_allocate = λ size align allowed. given-heard a _ (request-heard size align allowed);
        of_with_token = λ size align allowed. given-heard a _ (request-heard size align allowed);
      }

  module _ (b : Live) (shape : Allowed b.size b.align) (accepted : Accepted a b) where
    sizes : {new : ℕ} → new ≤ most → (ltb most b.size || ltb most new) ≡ false
    sizes {new} l = or-neither (le-ltb most b.size shape.0) (le-ltb most new l)

    aligns : (new_align : ℕ) → allowed_align new_align ≡ true → (not (allowed_align b.align) || not (allowed_align new_align)) ≡ false
    aligns new_align t = or-neither (true-not shape.1) (true-not t)

    cancel-heard : (token : Option Token) → TokenAccepted a b.offset token → CancelDone a b.offset token
    unfolding cancel_of
    cancel-heard None t = tt
    cancel-heard (Some token) t =
        answered-done a _ (none-applies _ (true-not sound, (t, tt)))

    pub block-heard : TokenAccepted a b.offset b.token → HeardOfBlock a lent b
    unfolding grow_of shrink_of resize_of free_of lend_of lend_answer
    block-heard token =
        record {
          of_grow = λ new new_align (small, allowed) up.
              given-heard a _
              (none-applies _
              (true-not sound, (lent-whole, (sizes small, (aligns new_align allowed, (true-not accepted, (le-ltb new b.size up, tt)))))));
          of_shrink = λ new new_align (small, allowed) down.
              given-heard a _
              (none-applies _
              (true-not sound, (lent-whole, (sizes small, (aligns new_align allowed, (true-not accepted, (le-ltb b.size new down, tt)))))));
          of_resize = λ new small.
              given-heard a _
              (none-applies _
              (true-not sound, (lent-whole, (sizes small, (true-not shape.1, (not-both (not (eqb b.size 0)) (true-not accepted), tt))))));
          of_free =
              answered-done a _
              (none-applies _
              (true-not sound, (le-ltb most b.size shape.0, (true-not shape.1, (true-not accepted, tt)))));
          of_cancel = cancel-heard b.token token;
          of_lend =
              ap lend_answer
              (none-applies _
              (true-not sound, (lent-whole, (le-ltb most b.size shape.0, (true-not shape.1, (true-not accepted, tt))))));
        }
