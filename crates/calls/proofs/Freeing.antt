-- What free answers: STATE, the refusal of the block that is named, or the record after the work. Assumes nothing.
use Prim.Native.Nat.{ℕ}
use mathlib.Core.Bool.{true, false}
use Rattle.std.specs.Prelude.{Option, None, Some, Err, Ok}
use mathlib.Core.Path.{◌≡◌, ◌∙◌, ap}
use Rattle.rounding.proofs.Tests.{true-not, false-not}
use Rattle.arena.specs.declared.Arena.{Arena}
use Rattle.arena.specs.declared.Refusal.{Refusal}
use Rattle.arena.specs.declared.Refusal.TheVariants.{State}
use Rattle.arena.specs.Record.{held_of, holding}
use Rattle.arena.specs.Refusals.{refused_by, answered}
use Rattle.arena.specs.Sound.{sound_of, state_test}
use Rattle.arena.proofs.Refusing.{refused-now, refused-later}
use Rattle.calls.specs.Free.{freed, free_tests, free_of}
use Rattle.calls.specs.Inner.{block_tests}

answered-refused : (a changed : Arena) {o : Option Refusal} {r : Refusal} → o ≡ Some r → answered o a changed ≡ record { answer = Err r; arena = a }
unfolding answered
answered-refused a changed e = ap (λ o. answered o a changed) e

module _ (a : Arena) (offset size align : ℕ) where
  refuses : {r : Refusal} → refused_by (free_tests a offset size align) ≡ Some r → free_of a offset size align ≡ record { answer = Err r; arena = a }
  unfolding free_of
  refuses e = answered-refused a _ e

  past-state : sound_of a ≡ true → refused_by (free_tests a offset size align) ≡ refused_by (block_tests a offset size align)
  past-state s = refused-later (state_test a) (block_tests a offset size align) (true-not s)

  pub free-state : sound_of a ≡ false → free_of a offset size align ≡ record { answer = Err State; arena = a }
  free-state e = refuses (refused-now (state_test a) (block_tests a offset size align) (false-not e))

  pub free-block : {r : Refusal} → sound_of a ≡ true → refused_by (block_tests a offset size align) ≡ Some r →
      free_of a offset size align ≡ record { answer = Err r; arena = a }
  free-block s e = refuses (past-state s ∙ e)

  pub free-works : sound_of a ≡ true → refused_by (block_tests a offset size align) ≡ None →
      free_of a offset size align ≡ record { answer = (Ok tt); arena = holding a.head (freed a.head.minimum (held_of a) offset size) }
  unfolding free_of answered
  free-works s e = ap (λ o. answered o a (holding a.head (freed a.head.minimum (held_of a) offset size))) (past-state s ∙ e)
