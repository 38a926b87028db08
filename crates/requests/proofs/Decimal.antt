-- The fewest decimal digits that hold a number are its text. Assumes nothing.
use Prim.Native.Nat.{ℕ, zero, suc, ◌+◌, ◌*◌, ◌-◌, ◌/◌, ◌%◌, ◌^◌, ◌≤◌, ◌<◌}
use native.Mathlib.Nat.{mod-lt, mod-eq_of_lt, pow-suc, pow-le-pow_right, le-div_iff_mul-le, div-lt_iff_lt-mul}
use native.Mathlib.Omega.{arith}
use mathlib.Core.Bool.{Bool, true, false, cond}
use mathlib.Core.List.{List, [], ◌∷◌, ◌++◌}
use mathlib.Core.Path.{◌≡◌, refl, ap}
use lib.Dec.{ltb, leb}
use lib.ListN.{length, length-append}
use borrow.Author.Tests.{lt-ltb, le-ltb, leb-true, leb-false}
use Rattle.io.specs.Digits.{hex_digit_ascii, last_digits, IsDigitCount}
use Rattle.requests.specs.Text.{digits_within, decimal}

last-digit : (n : ℕ) → hex_digit_ascii (n % 10) ≡ 48 + n % 10
last-digit n = rw (lt-ltb (n % 10) 10 (mod-lt n (omega arith)))

before : (k : ℕ) → suc k - 1 ≡ k
before k = omega arith

-- of k digits, of which the first is no needless 0
digits-within : (most k n : ℕ) → k ≤ most → 1 ≤ k → n < 10 ^ k → (1 < k → 10 ^ (k - 1) ≤ n) → last_digits 10 k n ≡ digits_within most n
unfolding digits_within
digits-within zero k n fits some below above = absurd (omega arith)
digits-within (suc most) zero n fits some below above = absurd (omega arith)
digits-within (suc most) (suc zero) n fits some below above =
    let small : n < 10 = below in
    rw (lt-ltb n 10 small, last-digit n, mod-eq_of_lt small)
digits-within (suc most) (suc (suc k)) n fits some below above =
    let large : 10 ^ suc k ≤ n = rw (before (suc k)) at (above (omega arith)) in
    let ten : 10 ≤ n = omega (arith, pow-le-pow_right {n = 10} (omega arith) {i = 1} {j = suc k} (omega arith)) in
    let high : 10 ^ k * 10 ≤ n = rw (pow-suc 10 k) at large in
    let low : n < 10 ^ suc k * 10 = rw (pow-suc 10 (suc k)) at below in
    rw (le-ltb n 10 ten, last-digit n)
    (ap (λ (l : List ℕ). l ++ ((48 + n % 10) ∷ []))
    (digits-within most (suc k) (n / 10) (omega arith) (omega arith) ((div-lt_iff_lt-mul {k = 10} (omega arith)).1 low)
    (λ more. rw (before k) ((le-div_iff_mul-le {k = 10} (omega arith)).1 high))))

pub digits_decimal : (k n : ℕ) → k ≤ 20 → IsDigitCount 10 1 n k → last_digits 10 k n ≡ decimal n
unfolding decimal
digits_decimal k n fits fewest = digits-within 20 k n fits fewest.0 fewest.1 fewest.2

within-length : (most n : ℕ) → length (digits_within most n) ≤ most
unfolding digits_within
within-length zero n = omega arith
within-length (suc most) n = go (ltb n 10) (within-length most (n / 10))
  where
    go : (b : Bool) → length (digits_within most (n / 10)) ≤ most →
        length (cond b ((48 + n) ∷ []) (digits_within most (n / 10) ++ ((48 + n % 10) ∷ []))) ≤ suc most
    go true h = omega arith
    go false h = omega (arith, length-append (digits_within most (n / 10)) ((48 + n % 10) ∷ []))

pub decimal-length : (n : ℕ) → length (decimal n) ≤ 20
unfolding decimal
decimal-length n = within-length 20 n

-- a number of 64 bits has no more
pub fewest-bound : (k n : ℕ) → n < 2 ^ 64 → IsDigitCount 10 1 n k → k ≤ 20
fewest-bound k n fits fewest = go (leb k 20) refl
  where
    go : (b : Bool) → leb k 20 ≡ b → k ≤ 20
    go true t = leb-true k 20 t
    go false t =
        let more = leb-false k 20 t in
        let high = fewest.2 (omega arith) in
        absurd (omega (arith, pow-le-pow_right {n = 10} (omega arith) {i = 20} {j = k - 1} (omega arith)))
