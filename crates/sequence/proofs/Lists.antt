-- Facts of each element and of each two, when one element is chosen and put first. Each goes down the list. Assumes nothing.
use Prim.Native.Nat.{ℕ, zero, suc}
use mathlib.Core.List.{List, [], ◌∷◌, map}
use Rattle.std.specs.Prelude.{Option, None, Some, option_map}
use Rattle.std.proofs.lemmas.Option.{none-some}
use Rattle.rounding.proofs.Optional.{mapped_some}
use mathlib.Core.Path.{◌≡◌, refl, ap, subst, ◌∙◌}
use Rattle.rounding.specs.Every.{Each}
use Rattle.rounding.proofs.Every.{every_map}
use Rattle.sequence.specs.Ledger.{Chosen, chosen_of, choose}
use Rattle.sequence.specs.Demand.{EachTwo}

module _ {A : Type 0} where
  -- two facts of each element at once
  pub every-both : (P Q : A → Type 0) (xs : List A) → Each P xs → Each Q xs → Each (λ x. P x × Q x) xs
  every-both P Q [] p q = tt
  every-both P Q (x ∷ xs) p q = ((p.0, q.0), every-both P Q xs p.1 q.1)

  pub every-left : (P Q : A → Type 0) (xs : List A) → Each (λ x. P x × Q x) xs → Each P xs
  every-left P Q = every_map (λ x h. h.0)

  pub every-right : (P Q : A → Type 0) (xs : List A) → Each (λ x. P x × Q x) xs → Each Q xs
  every-right P Q = every_map (λ x h. h.1)

  -- what holds of each two where it may use a fact of each
  pub two-among : (F : A → Type 0) (P Q : A → A → Type 0) → ((x y : A) → F x → F y → P x y → Q x y) → (xs : List A) → Each F xs → EachTwo P xs → EachTwo Q xs
  two-among F P Q f [] e h = tt
  two-among F P Q f (x ∷ xs) e h = (
    every_map (λ y g. f x y e.0 g.0 g.1) xs (every-both F (P x) xs e.1 h.0),
    two-among F P Q f xs e.1 h.1,
  )

  -- the chosen one, put first
  pub every-chosen : (P : A → Type 0) (xs : List A) (place : ℕ) {c : Chosen A} → choose xs place ≡ Some c → Each P xs → Each P (c.one ∷ c.others)
  unfolding choose
  every-chosen P [] place {c} e h = absurd (none-some c e)
  every-chosen P (x ∷ xs) zero {c} e h =
      let same : chosen_of x xs ≡ c = cc in
      subst (λ (d : Chosen A). Each P (d.one ∷ d.others)) same h
  every-chosen P (x ∷ xs) (suc place) e h =
      let found = mapped_some (λ (d : Chosen A). chosen_of d.one (x ∷ d.others)) (choose xs place) e in
      let rest = every-chosen P xs place found.1 h.1 in
      subst (λ (d : Chosen A). Each P (d.one ∷ d.others)) found.2 (rest.0, (h.0, rest.1))

  pub two-chosen : (R : A → A → Type 0) → ((x y : A) → R x y → R y x) → (xs : List A) (place : ℕ) {c : Chosen A} → choose xs place ≡ Some c →
      EachTwo R xs → EachTwo R (c.one ∷ c.others)
  unfolding choose
  two-chosen R turn [] place {c} e h = absurd (none-some c e)
  two-chosen R turn (x ∷ xs) zero {c} e h =
      let same : chosen_of x xs ≡ c = cc in
      subst (λ (d : Chosen A). EachTwo R (d.one ∷ d.others)) same h
  two-chosen R turn (x ∷ xs) (suc place) e h =
      let found = mapped_some (λ (d : Chosen A). chosen_of d.one (x ∷ d.others)) (choose xs place) e in
      let rest = two-chosen R turn xs place found.1 h.1 in
      let here = every-chosen (R x) xs place found.1 h.0 in
      subst (λ (d : Chosen A). EachTwo R (d.one ∷ d.others)) found.2 ((turn _ _ here.0, rest.0), (here.1, rest.1))

-- choosing among what a list is mapped to
pub choose-map : {A B : Type 0} (f : A → B) (xs : List A) (place : ℕ) →
    choose (map f xs) place ≡ option_map (λ c. chosen_of (f c.one) (map f c.others)) (choose xs place)
unfolding choose
choose-map f [] place = refl
choose-map f (x ∷ xs) zero = refl
choose-map {A} {B} f (x ∷ xs) (suc place) = ap (option_map (λ (d : Chosen B). chosen_of d.one (f x ∷ d.others))) (choose-map f xs place) ∙ go (choose xs place)
  where
    go : (o : Option (Chosen A)) →
        option_map (λ (d : Chosen B). chosen_of d.one (f x ∷ d.others)) (option_map (λ (c : Chosen A). chosen_of (f c.one) (map f c.others)) o)
        ≡ option_map (λ (c : Chosen A). chosen_of (f c.one) (map f c.others)) (option_map (λ (c : Chosen A). chosen_of c.one (x ∷ c.others)) o)
    go None = refl
    go (Some c) = refl

-- what holds of what each element is mapped to
pub every-mapped : {A B : Type 0} (f : A → B) (P : B → Type 0) (xs : List A) → Each (λ x. P (f x)) xs → Each P (map f xs)
every-mapped f P [] h = tt
every-mapped f P (x ∷ xs) h = (h.0, every-mapped f P xs h.1)

pub two-mapped : {A B : Type 0} (f : A → B) (R : B → B → Type 0) (xs : List A) → EachTwo (λ x y. R (f x) (f y)) xs → EachTwo R (map f xs)
two-mapped f R [] h = tt
two-mapped f R (x ∷ xs) h = (every-mapped f (R (f x)) xs h.0, two-mapped f R xs h.1)
