-- The first of a row of answers that is something: what "the lowest", "the next" and "the first served" of document 01 are made of.
use Rattle.std.specs.Prelude.{ℕ, zero, suc, Bool, true, false, Option, None, Some}

-- a where the test holds, and nothing where it does not
unfoldable pub only : {A : Type 0} → Bool → A → Option A
only true a = Some a
only false a = None

-- the first of f i, f (i + 1), .. that is something, n of them looked at; `found` is what the one before them gave
unfoldable pub seek : {A : Type 0} → ℕ → ℕ → (ℕ → Option A) → Option A → Option A
seek zero i f found = found
seek (suc n) i f (Some a) = Some a
seek (suc n) i f None = seek n (suc i) f (f i)

-- the first of f 0, f 1, .. f (n - 1) that is something
unfoldable pub first : {A : Type 0} → ℕ → (ℕ → Option A) → Option A
first n f = seek n 0 f None
