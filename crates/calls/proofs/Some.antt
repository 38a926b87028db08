-- What holds of some element of a list: the first element settles it, or leaves it to the rest. Assumes nothing.
use mathlib.Core.Bool.{Bool, true, false, ◌||◌}
use mathlib.Core.List.{List, [], ◌∷◌}
use mathlib.Core.Path.{◌≡◌, refl, ap}
use Rattle.rounding.specs.Every.{any}
use Rattle.rounding.proofs.Tests.{or_left}

module _ {A : Type 0} (test : A → Bool) where
  pub any-now : (x : A) (xs : List A) → test x ≡ true → any test (x ∷ xs) ≡ true
  unfolding any
  any-now x xs t = or_left (any test xs) t

  pub any-later : (x : A) (xs : List A) → test x ≡ false → any test (x ∷ xs) ≡ any test xs
  unfolding any
  any-later x xs f = ap (λ (b : Bool). b || any test xs) f

  pub any_none : any test [] ≡ false
  unfolding any
  any_none = refl
