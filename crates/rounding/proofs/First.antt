-- The first of a row of answers is the one at a place before which there is nothing. Each law goes by the row's head and its rest.
-- Assumes nothing.
use Prim.Native.Nat.{ℕ, zero, suc, ◌<◌, zero-le, suc-le-suc}
use native.Mathlib.Nat.{not-suc-le-zero, le_of_suc-le-suc}
use mathlib.Core.Bool.{Bool, true, false}
use Rattle.std.specs.Prelude.{Option, None, Some}
use Rattle.std.proofs.lemmas.Option.{none-some}
use Rattle.rounding.proofs.Optional.{some-none}
use mathlib.Core.Path.{◌≡◌, refl, sym, ◌∙◌, ap}
use Rattle.rounding.specs.First.{only, seek, first}

-- an answer that a test lets through
module _ {A : Type 0} where
  pub only-passed : (b : Bool) (a : A) {x : A} → only b a ≡ Some x → (b ≡ true) × (a ≡ x)
  unfolding only
  only-passed true a h = (refl, cc)
  only-passed false a h = (cc, cc)

  pub passed-only : {b : Bool} {a x : A} → b ≡ true → a ≡ x → only b a ≡ Some x
  unfolding only
  passed-only p q = rw (p, q)

  pub only-failed : (b : Bool) (a : A) → only b a ≡ None → b ≡ false
  unfolding only
  only-failed true a h = cc
  only-failed false a h = refl

  pub failed-only : {b : Bool} (a : A) → b ≡ false → only b a ≡ None
  unfolding only
  failed-only a p = rw p

-- a is the answer at the first place of n that has one
pub record FirstAt {A : Type 0} (n : ℕ) (f : ℕ → Option A) (a : A) : Type 0 where
  pub place : ℕ
  pub below : place < n
  pub here : f place ≡ Some a
  pub before : (j : ℕ) → j < place → f j ≡ None

module _ {A : Type 0} where
  kept : (n i : ℕ) (f : ℕ → Option A) (a : A) → seek n i f (Some a) ≡ Some a
  unfolding seek
  kept zero i f a = refl
  kept (suc n) i f a = refl

  shifted : (n i : ℕ) (f : ℕ → Option A) (found : Option A) → seek n (suc i) f found ≡ seek n i (λ k. f (suc k)) found
  unfolding seek
  shifted zero i f found = refl
  shifted (suc n) i f None = shifted n (suc i) f (f (suc i))
  shifted (suc n) i f (Some a) = refl

  -- the head of the row, and the rest where the head is nothing
  pub first-now : (n : ℕ) (f : ℕ → Option A) {a : A} → f 0 ≡ Some a → first (suc n) f ≡ Some a
  unfolding first seek
  first-now n f {a} h = ap (seek n 1 f) h ∙ kept n 1 f a

  pub first-later : (n : ℕ) (f : ℕ → Option A) → f 0 ≡ None → first (suc n) f ≡ first n (λ k. f (suc k))
  unfolding first seek
  first-later n f h = ap (seek n 1 f) h ∙ shifted n 0 f None

  -- nothing is first exactly where there is nothing in the row
  pub none_first : (n : ℕ) (f : ℕ → Option A) → ((k : ℕ) → k < n → f k ≡ None) → first n f ≡ None
  unfolding first seek
  none_first zero f h = refl
  none_first (suc n) f h = first-later n f (h 0 (suc-le-suc zero-le)) ∙ none_first n (λ k. f (suc k)) (λ k l. h (suc k) (suc-le-suc l))

  pub first-none : (n : ℕ) (f : ℕ → Option A) → first n f ≡ None → (k : ℕ) → k < n → f k ≡ None
  first-none zero f h k l = absurd (not-suc-le-zero l)
  first-none (suc n) f h k l = go (f 0) refl (first-none n (λ j. f (suc j))) k l
    where
      go : (o : Option A) → f 0 ≡ o → (first n (λ j. f (suc j)) ≡ None → (j : ℕ) → j < n → f (suc j) ≡ None) → (j : ℕ) → j < suc n → f j ≡ None
      go None e rest zero m = e
      go None e rest (suc j) m = rest (sym (first-later n f e) ∙ h) j (le_of_suc-le-suc m)
      go (Some a) e rest j m = absurd (some-none a (sym (first-now n f e) ∙ h))

  -- an answer is first exactly where there is nothing before it
  pub at_first : (n k : ℕ) (f : ℕ → Option A) {a : A} → k < n → f k ≡ Some a → ((j : ℕ) → j < k → f j ≡ None) → first n f ≡ Some a
  at_first zero k f l h b = absurd (not-suc-le-zero l)
  at_first (suc n) zero f l h b = first-now n f h
  at_first (suc n) (suc k) f l h b =
      first-later n f (b 0 (suc-le-suc zero-le))
      ∙ at_first n k (λ j. f (suc j)) (le_of_suc-le-suc l) h (λ j m. b (suc j) (suc-le-suc m))

  pub first-at : (n : ℕ) (f : ℕ → Option A) {a : A} → first n f ≡ Some a → FirstAt n f a
  unfolding first seek
  first-at zero f {a} h = absurd (none-some a h)
  first-at (suc n) f {a} h = go (f 0) refl (first-at n (λ k. f (suc k)))
    where
      go : (o : Option A) → f 0 ≡ o → (first n (λ k. f (suc k)) ≡ Some a → FirstAt n (λ k. f (suc k)) a) → FirstAt (suc n) f a
      go (Some b) e rest =
          record {
            place = 0;
            below = suc-le-suc zero-le;
            here = e ∙ sym (first-now n f e) ∙ h;
            before = λ j m. absurd (not-suc-le-zero m);
          }
      go None e rest =
          let later = rest (sym (first-later n f e) ∙ h) in
          record {
            place = suc later.place;
            below = suc-le-suc later.below;
            here = later.here;
            before = elim [ zero ↦ λ m. e | suc j ↦ λ m. later.before j (le_of_suc-le-suc m) ];
          }
