-- Tests that are joined by `&&`, `||` and `not`, taken apart and put together. What a test on numbers tells, as `leb a b ≡ true`, is in `borrow.Author.Tests`.
-- Some are the library's, under the names that they have here. Assumes nothing.
use mathlib.Core.Bool.{Bool, true, false, not, ◌&&◌, ◌||◌, true≢false}
use mathlib.Core.Path.{◌≡◌, refl, sym, ◌∙◌, ap}
pub use Rattle.std.proofs.lemmas.Bool.{cases_Bool as decided, false_from_ne_true as refute, or_cases}

-- a test holds or fails (`decided`), and never both
pub true-false : {b : Bool} → b ≡ true → b ≡ false → ⊥
true-false t f = true≢false (sym t ∙ f)

-- two tests that imply each other are equal
pub same : {a b : Bool} → (a ≡ true → b ≡ true) → (b ≡ true → a ≡ true) → a ≡ b
same {a = true} {b} f g = sym (f refl)
same {a = false} {b} f g = sym (refute b (λ t. true-false (g t) refl))

-- both
pub and_left : (a b : Bool) → (a && b) ≡ true → a ≡ true
and_left true b h = refl
and_left false b h = h

pub and_right : (a b : Bool) → (a && b) ≡ true → b ≡ true
and_right true b h = h
and_right false b h = absurd (true-false h refl)

pub and_both : {a b : Bool} → a ≡ true → b ≡ true → (a && b) ≡ true
and_both {b} p q = ap (λ (t : Bool). t && b) p ∙ q

-- either
pub or_left : {a : Bool} (b : Bool) → a ≡ true → (a || b) ≡ true
or_left b p = ap (λ (t : Bool). t || b) p

pub or_right : (a : Bool) {b : Bool} → b ≡ true → (a || b) ≡ true
or_right true q = refl
or_right false q = q

pub or-false-left : (a b : Bool) → (a || b) ≡ false → a ≡ false
or-false-left true b h = h
or-false-left false b h = refl

pub or-false-right : (a b : Bool) → (a || b) ≡ false → b ≡ false
or-false-right true b h = absurd (true-false refl h)
or-false-right false b h = h

pub or-neither : {a b : Bool} → a ≡ false → b ≡ false → (a || b) ≡ false
or-neither {b} p q = ap (λ (t : Bool). t || b) p ∙ q

-- the other way: `not-true` and `not-false` are in `borrow.Author.Tests`
pub true-not : {b : Bool} → b ≡ true → not b ≡ false
true-not p = ap not p

pub false-not : {b : Bool} → b ≡ false → not b ≡ true
false-not p = ap not p

-- `if !f(..) { return ..; }`: which way the branch went tells the test that the callee answers
pub taken_false : {answer test : Bool} → answer ≡ test → answer ≡ false → test ≡ false
taken_false e f = sym e ∙ f

pub left-true : {answer test : Bool} → answer ≡ test → answer ≡ true → test ≡ true
left-true e t = sym e ∙ t
