-- What holds of each element of a list, as a test and as a fact, by going down the list. Assumes nothing.
use mathlib.Core.Bool.{Bool, true}
use mathlib.Core.List.{List, [], ◌∷◌}
use mathlib.Core.Path.{◌≡◌, refl}
use Rattle.rounding.specs.Every.{every, Each}
use Rattle.rounding.proofs.Tests.{and_left, and_right, and_both}

module _ {A : Type 0} where
  pub every-open : (test : A → Bool) (xs : List A) → every test xs ≡ true → Each (λ x. test x ≡ true) xs
  unfolding every
  every-open test [] h = tt
  every-open test (x ∷ xs) h = (and_left (test x) (every test xs) h, every-open test xs (and_right (test x) (every test xs) h))

  pub every-shut : (test : A → Bool) (xs : List A) → Each (λ x. test x ≡ true) xs → every test xs ≡ true
  unfolding every
  every-shut test [] h = refl
  every-shut test (x ∷ xs) h = and_both h.0 (every-shut test xs h.1)

  pub every_map : {P Q : A → Type 0} → ((x : A) → P x → Q x) → (xs : List A) → Each P xs → Each Q xs
  every_map f [] h = tt
  every_map f (x ∷ xs) h = (f x h.0, every_map f xs h.1)
