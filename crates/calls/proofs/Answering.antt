-- What a call that gives out a block answers, by the parts of its tests, and the region's bytes by that answer. Assumes nothing.
use Prim.Native.Nat.{ℕ}
use mathlib.Core.List.{List, ◌++◌}
use Rattle.std.specs.Prelude.{Option, None, Some}
use mathlib.Core.Path.{◌≡◌, sym, ◌∙◌, ap}
use Rattle.arena.specs.declared.Arena.{Arena}
use Rattle.arena.specs.declared.Refusal.{Refusal}
use Rattle.arena.specs.Refusals.{Test, refused_by, Allocation, Given}
use Rattle.calls.specs.Allocate.{Taken, given}
use Rattle.calls.specs.Bytes.{after_given}
use Rattle.calls.proofs.Testing.{refused-before, passed-before}

-- the first part of the tests refuses; or it refuses nothing, and the rest does
module _ (a : Arena) (ts us : List Test) (taken : Option Taken) where
  pub stopped-first : {r : Refusal} → refused_by ts ≡ Some r → given (refused_by (ts ++ us)) a taken ≡ given (Some r) a None
  unfolding given
  stopped-first e = ap (λ o. given o a taken) (refused-before ts us e)

  pub stopped-later : {r : Refusal} → refused_by ts ≡ None → refused_by us ≡ Some r → given (refused_by (ts ++ us)) a taken ≡ given (Some r) a None
  unfolding given
  stopped-later p e = ap (λ o. given o a taken) (passed-before ts us p ∙ e)

-- the bytes are those of the case that the answer shows
pub bytes-shown : (make : ℕ → List ℕ) (bytes : List ℕ) {answer got : Allocation} {g : Given} → got ≡ answer → got.answer ≡ g →
    after_given g make bytes ≡ after_given answer.answer make bytes
bytes-shown make bytes e shows = ap (λ (h : Given). after_given h make bytes) (sym shows ∙ ap (λ (o : Allocation). o.answer) e)
