-- Powers of two: a number with one bit set is one, of two the smaller divides the larger, and the next one at or above n is the least there is.
-- Assumes nothing.
use Prim.Native.Nat.{ℕ, suc, ◌+◌, ◌-◌, ◌*◌, ◌/◌, ◌%◌, ◌^◌, ◌≤◌, ◌<◌, max, ◌∣◌}
use native.Mathlib.Nat.{le_antisymm, lt_of_not-le, le_of_lt, eq-zero-or-pos, max-eq_left, max-eq_right, le-max_left, le-max_right, add-sub_of_le, dvd-mul_right, dvd_trans, pow-suc, le_refl, le_trans}
use native.Mathlib.Decide.{dec_le}
use native.Mathlib.Omega.{arith}
use mathlib.Core.Bool.{true}
use mathlib.Core.Logic.{⊎_elim}
use Rattle.std.specs.Prelude.{Option, None, Some, unwrap_or}
use mathlib.Core.Path.{◌≡◌, refl, sym, ◌∙◌, ap, subst}
use lib.Arith.{bin_ind}
use lib.Count.{ones, ones_step, ones_cat}
use lib.Dec.{leb}
use lib.Pow.{pow_pos, pow_mono, pow-lt, pow-add}
use borrow.Author.Tests.{eqb-true, eq-eqb, leb-true, leb-false}
use Rattle.std.specs.Int.{IsNextPowerOfTwo}
use Rattle.std.proofs.lemmas.Nat.{zero_from_ones}
use Rattle.rounding.specs.First.{only, first}
use Rattle.rounding.specs.Round.{round_down, one_bit, next_power}
use Rattle.rounding.proofs.First.{first-at, first-none, only-passed, only-failed}
use Rattle.rounding.proofs.Rounding.{down-multiple, down-stays, down-coarser, down-finer}

-- n is a power of two
pub record Power (n : ℕ) : Type 0 where
  pub exponent : ℕ
  pub value : n ≡ 2 ^ exponent

pub two-to-the : (k : ℕ) → Power (2 ^ k)
two-to-the k = record { exponent = k; value = refl }

pub power-positive : {n : ℕ} → Power n → 0 < n
power-positive p = rw p.value (pow_pos p.exponent)

-- exactly one bit is set in a power of two, and in no other number
one_more : (n : ℕ) → (ones (n / 2) ≡ 1 → Power (n / 2)) → ones n ≡ 1 → Power n
one_more n half h = ⊎_elim even odd (eq-zero-or-pos (n % 2))
  where
    even : n % 2 ≡ 0 → Power n
    even e =
        let rest = half (omega (arith, ones_step n)) in
        record { exponent = suc rest.exponent; value = rw pow-suc (omega (arith, rest.value)) }

    odd : 0 < n % 2 → Power n
    odd o =
        let rest = zero_from_ones (n / 2) (omega (arith, ones_step n)) in
        record { exponent = 0; value = omega arith }

pub one-bit-power : (n : ℕ) → one_bit n ≡ true → Power n
unfolding one_bit ones
one-bit-power n t = bin_ind (λ (m : ℕ). ones m ≡ 1 → Power m) (λ h. absurd (omega arith)) one_more n (eqb-true (ones n) 1 t)

pub power-one-bit : {n : ℕ} → Power n → one_bit n ≡ true
unfolding one_bit ones
power-one-bit {n} p =
    let shape : n ≡ 1 * 2 ^ p.exponent + 0 = omega (arith, p.value) in
    eq-eqb (ones n) 1 (ap ones shape ∙ ones_cat p.exponent 1 0 (pow_pos p.exponent))

-- of two powers the smaller divides the larger, and is at most half of it
pub power_divides : {a b : ℕ} → Power a → Power b → a ≤ b → a ∣ b
power_divides {a} {b} p q l =
    let i = p.exponent in
    let j = q.exponent in
    let not-less : ¬ (j < i) = λ g. omega (arith, pow-lt g, p.value, q.value) in
    let split : 2 ^ i * 2 ^ (j - i) ≡ b = sym (pow-add 2 i (j - i)) ∙ ap (λ (k : ℕ). 2 ^ k) (add-sub_of_le (omega arith)) ∙ sym q.value in
    rw p.value (subst (λ (x : ℕ). 2 ^ i ∣ x) split (dvd-mul_right (2 ^ i) (2 ^ (j - i))))

pub power-doubles : {a b : ℕ} → Power a → Power b → a < b → a * 2 ≤ b
power-doubles p q l =
    let i = p.exponent in
    let j = q.exponent in
    let not_more : ¬ (j ≤ i) = λ g. omega (arith, pow_mono g, p.value, q.value) in
    let twice : 2 ^ suc i ≤ 2 ^ j = pow_mono (omega arith) in
    omega (arith, pow-suc 2 i, p.value, q.value)

-- the larger of two numbers is one of them; of two powers, its multiples are the multiples of both
pub max_cases : (P : ℕ → Type 0) (p q : ℕ) → (p ≤ q → P q) → (q ≤ p → P p) → P (max p q)
max_cases P p q right left = go (dec_le p q)
  where
    go : Dec (p ≤ q) → P (max p q)
    go (yes l) = rw (max-eq_right l) (right l)
    go (no g) =
        let l = le_of_lt (lt_of_not-le g) in
        rw (max-eq_left l) (left l)

pub power-max : {p q : ℕ} → Power p → Power q → Power (max p q)
power-max {p} {q} hp hq = max_cases Power p q (λ l. hq) (λ l. hp)

pub of-max-left : {p q n : ℕ} → Power p → Power q → max p q ∣ n → p ∣ n
of-max-left {p} {q} hp hq h = dvd_trans p (power_divides hp (power-max hp hq) (le-max_left p q)) h

pub of-max-right : {p q n : ℕ} → Power p → Power q → max p q ∣ n → q ∣ n
of-max-right {p} {q} hp hq h = dvd_trans q (power_divides hq (power-max hp hq) (le-max_right p q)) h

-- what both divide the larger divides
pub max-multiple : (p q : ℕ) {n : ℕ} → p ∣ n → q ∣ n → max p q ∣ n
max-multiple p q {n} h k = max_cases (λ (m : ℕ). m ∣ n) p q (λ l. k) (λ l. h)

-- rounded down by one and then by the other, a number is rounded down by the larger, so that a multiple of one stays a multiple of it
pub down-twice : (n : ℕ) {p q : ℕ} → Power p → Power q → round_down (round_down n p) q ≡ round_down n (max p q)
down-twice n {p} {q} hp hq =
    max_cases (λ (m : ℕ). round_down (round_down n p) q ≡ round_down n m) p q
    (λ l. down-coarser n p q (power_divides hp hq l))
    (λ l. down-finer n p q (power_divides hq hp l))

pub down-keeps : {n p q : ℕ} → Power p → Power q → p ∣ n → p ∣ round_down n q
down-keeps {n} {p} {q} hp hq h =
    let coarser : round_down n q ≡ round_down n (max p q) = ap (λ (m : ℕ). round_down m q) (sym (down-stays p h)) ∙ down-twice n hp hq in
    rw coarser (of-max-left hp hq (down-multiple n (max p q)))

-- p is the least power of two at or above n
pub record Next (n p : ℕ) : Type 0 where
  pub power : Power p
  pub above : n ≤ p
  pub least : {q : ℕ} → Power q → n ≤ q → p ≤ q

abbrev choices : ℕ → ℕ → Option ℕ
choices n k = only (leb n (2 ^ k)) (2 ^ k)

too_small : (n k : ℕ) → choices n k ≡ None → 2 ^ k < n
too_small n k e = leb-false n (2 ^ k) (only-failed (leb n (2 ^ k)) (2 ^ k) e)

chosen : (n : ℕ) → n ≤ 2 ^ 64 → (o : Option ℕ) → first 65 (choices n) ≡ o → Next n (unwrap_or o 0)
chosen n h None e = absurd (omega (arith, too_small n 64 (first-none 65 (choices n) e 64 (omega arith))))
chosen n h (Some a) e =
    let found = first-at 65 (choices n) e in
    let k = found.place in
    let passed = only-passed (leb n (2 ^ k)) (2 ^ k) found.here in
    record {
      power = record { exponent = k; value = sym passed.1 };
      above = omega (arith, passed.1, leb-true n (2 ^ k) passed.0);
      least = λ hq l.
          let j = hq.exponent in
          let not-less : ¬ (j < k) = λ g. omega (arith, too_small n j (found.before j g), hq.value) in
          omega (arith, pow_mono {i = k} {j = j} (omega arith), passed.1, hq.value);
    }

-- up to 2 ^ 64 there is one, and `next_power` gives it
pub next_power_lem : (n : ℕ) → n ≤ 2 ^ 64 → Next n (next_power n)
unfolding next_power
next_power_lem n h = chosen n h (first 65 (choices n)) refl

pub next-unique : {n p : ℕ} → n ≤ 2 ^ 64 → Next n p → next_power n ≡ p
next-unique {n} h is =
    let found = next_power_lem n h in
    le_antisymm (found.least is.power is.above) (is.least found.power found.above)

-- what the library says of the next power of two leaves no other
pub next_is : {n p : ℕ} → n ≤ 2 ^ 64 → IsNextPowerOfTwo n p → next_power n ≡ p
next_is {n} {p} h is =
    let power : Power p = record { exponent = is.0.0; value = is.0.1 } in
    next-unique h
    (record {
      power = power;
      above = is.1;
      least = λ {q} hq l.
          let not-less : ¬ (q < p) = λ g. omega (arith, power-doubles hq power g, power-positive hq, is.2) in
          omega arith;
    })

-- a power between n and its double is the next one, and a power is its own
pub next-between : {n p : ℕ} → n ≤ 2 ^ 64 → Power p → n ≤ p → p < n * 2 → next_power n ≡ p
next-between {n} {p} h hp l g =
    next-unique h
    (record {
      power = hp;
      above = l;
      least = λ {q} hq m.
          let not-less : ¬ (q < p) = λ k. omega (arith, power-doubles hq hp k) in
          omega arith;
    })

pub next-stays : {p : ℕ} → Power p → p ≤ 2 ^ 64 → next_power p ≡ p
next-stays {p} hp h = next-unique h (record { power = hp; above = le_refl p; least = λ hq l. l })

pub next-monotone : {n m : ℕ} → n ≤ m → m ≤ 2 ^ 64 → next_power n ≤ next_power m
next-monotone {n} {m} l h =
    let found = next_power_lem m h in
    (next_power_lem n (le_trans l h)).least found.power (le_trans l found.above)
