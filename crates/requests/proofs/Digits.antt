-- A printed number reads back: its last digit is what is left of a division by ten. Assumes nothing.
use Prim.Native.Nat.{ℕ, zero, suc, ◌+◌, ◌*◌, ◌-◌, ◌/◌, ◌%◌, ◌^◌, ◌≤◌, ◌<◌}
use native.Mathlib.Nat.{mod-lt, pow-suc, div-lt_iff_lt-mul}
use native.Mathlib.Omega.{arith}
use mathlib.Core.Bool.{Bool, true, false, cond}
use mathlib.Core.List.{List, [], ◌∷◌, ◌++◌}
use mathlib.Core.Path.{◌≡◌, refl, ◌∙◌}
use lib.Dec.{ltb, leb}
use lib.ListN.{get_or}
use borrow.Author.Tests.{le-leb, ltb-true, ltb-false}
use Rattle.rounding.proofs.Tests.{and_both, and_left, and_right}
use Rattle.requests.specs.Text.{digits_within, decimal}
use Rattle.requests.specs.Digits.{value_from, is_digit, all_digits, ReadsBack, ZeroPrinted}

value-last : (n : ℕ) (ds : List ℕ) (d : ℕ) → value_from n (ds ++ (d ∷ [])) ≡ value_from n ds * 10 + (d - 48)
unfolding value_from
value-last n [] d = refl
value-last n (e ∷ ds) d = value-last (n * 10 + (e - 48)) ds d

all-last : (ds : List ℕ) (d : ℕ) → all_digits ds ≡ true → is_digit d ≡ true → all_digits (ds ++ (d ∷ [])) ≡ true
unfolding all_digits
all-last [] d all one = and_both one refl
all-last (e ∷ ds) d all one = and_both (and_left (is_digit e) (all_digits ds) all) (all-last ds d (and_right (is_digit e) (all_digits ds) all) one)

first-stays : (ds more : List ℕ) → leb 49 (get_or ds 0 0) ≡ true → leb 49 (get_or (ds ++ more) 0 0) ≡ true
first-stays [] more e = absurd (let y : ◌≡◌ {A = ℕ} 0 1 = cc in omega arith)
first-stays (d ∷ ds) more e = e

is_digit_lem : (n : ℕ) → n < 10 → is_digit (48 + n) ≡ true
is_digit_lem n h = and_both (le-leb 48 (48 + n) (omega arith)) (le-leb (48 + n) 57 (omega arith))

-- a number below a power of ten goes down to one below the power before
tenth : (most n : ℕ) → n < 10 ^ suc most → n / 10 < 10 ^ most
tenth most n below = let low : n < 10 ^ most * 10 = rw (pow-suc 10 most) at below in (div-lt_iff_lt-mul {k = 10} (omega arith)).1 low

reads-back : (most n : ℕ) → n < 10 ^ most → value_from 0 (digits_within most n) ≡ n
unfolding digits_within value_from
reads-back zero n below = omega (arith, below)
reads-back (suc most) n below = go (ltb n 10) refl (reads-back most (n / 10) (tenth most n below))
  where
    go : (b : Bool) → ltb n 10 ≡ b → value_from 0 (digits_within most (n / 10)) ≡ n / 10 →
        value_from 0 (cond b ((48 + n) ∷ []) (digits_within most (n / 10) ++ ((48 + n % 10) ∷ []))) ≡ n
    go true t h = omega arith
    go false t h = value-last 0 (digits_within most (n / 10)) (48 + n % 10) ∙ omega (arith, h)

are-digits : (most n : ℕ) → all_digits (digits_within most n) ≡ true
unfolding digits_within all_digits
are-digits zero n = refl
are-digits (suc most) n = go (ltb n 10) refl (are-digits most (n / 10))
  where
    go : (b : Bool) → ltb n 10 ≡ b → all_digits (digits_within most (n / 10)) ≡ true →
        all_digits (cond b ((48 + n) ∷ []) (digits_within most (n / 10) ++ ((48 + n % 10) ∷ []))) ≡ true
    go true t h = and_both (is_digit_lem n (ltb-true n 10 t)) refl
    go false t h = all-last (digits_within most (n / 10)) (48 + n % 10) h (is_digit_lem (n % 10) (mod-lt n (omega arith)))

first_above : (most n : ℕ) → 0 < n → n < 10 ^ most → leb 49 (get_or (digits_within most n) 0 0) ≡ true
unfolding digits_within
first_above zero n some below = absurd (omega (arith, below))
first_above (suc most) n some below = go (ltb n 10) refl (λ more. first_above most (n / 10) more (tenth most n below))
  where
    go : (b : Bool) → ltb n 10 ≡ b → (0 < n / 10 → leb 49 (get_or (digits_within most (n / 10)) 0 0) ≡ true) →
        leb 49 (get_or (cond b ((48 + n) ∷ []) (digits_within most (n / 10) ++ ((48 + n % 10) ∷ []))) 0 0) ≡ true
    go true t h = le-leb 49 (48 + n) (omega arith)
    go false t h =
        let large : 10 ≤ n = ltb-false n 10 t in
        first-stays (digits_within most (n / 10)) ((48 + n % 10) ∷ []) (h (omega arith))

pub decimal-reads-back : ReadsBack
unfolding ReadsBack decimal
decimal-reads-back n below = (reads-back 20 n below, are-digits 20 n, λ some. first_above 20 n some below)

pub zero-printed : ZeroPrinted
unfolding ZeroPrinted decimal digits_within
zero-printed = refl
