-- Rounding, by the remainder that is taken off: a multiple added below leaves the remainder as it is, and from that the rest follows.
-- "Is a multiple of" is the library's `◌∣◌`; sums and differences of multiples are `dvd-add` and `dvd-sub` of `native.Mathlib.Nat`. Assumes nothing.
use Prim.Native.Nat.{ℕ, zero, suc, ◌+◌, ◌-◌, ◌*◌, ◌/◌, ◌%◌, ◌≤◌, ◌<◌, ◌∣◌}
use native.Mathlib.Nat.{zero-add, add_assoc, add-sub_of_le, le_trans, le_antisymm, mod-le, mod-lt, mod-add-mod, mod-eq_of_lt, div-add-mod', dvd-mul_left, dvd_trans, dvd-sub, dvd-zero, one-dvd, mod-eq-zero_of_dvd, dvd_of_mod-eq-zero}
use native.Mathlib.Omega.{arith}
use mathlib.Core.Bool.{true}
use mathlib.Core.Path.{◌≡◌, refl, sym, ◌∙◌, ap}
use borrow.Author.Tests.{eqb-true, eq-eqb}
use Rattle.rounding.specs.Round.{multiple, round_down, round_up}

-- the test and the fact
pub multiple-dvd : (d n : ℕ) → multiple d n ≡ true → d ∣ n
unfolding multiple
multiple-dvd d n t = dvd_of_mod-eq-zero d (eqb-true (n % d) 0 t)

pub dvd-multiple : (d : ℕ) {n : ℕ} → d ∣ n → multiple d n ≡ true
unfolding multiple
dvd-multiple d {n} h = eq-eqb (n % d) 0 (mod-eq-zero_of_dvd d h)

mod-above : (n d : ℕ) {x : ℕ} → d ∣ x → (x + n) % d ≡ n % d
mod-above n d {x} h = sym (mod-add-mod x d n) ∙ ap (λ (r : ℕ). (r + n) % d) (mod-eq-zero_of_dvd d h) ∙ ap (λ (m : ℕ). m % d) (zero-add n)

-- rounded down: at most n, less than d below it, and a multiple
pub down-at-most : (n d : ℕ) → round_down n d ≤ n
unfolding round_down
down-at-most n d = omega arith

pub down-near : (n d : ℕ) → 0 < d → n < round_down n d + d
unfolding round_down
down-near n d h = omega (arith, mod-lt n h)

pub down-multiple : (n d : ℕ) → d ∣ round_down n d
unfolding round_down
down-multiple n d =
    let whole : n - n % d ≡ n / d * d = omega (arith, div-add-mod' n d) in
    rw whole (dvd-mul_left d (n / d))

-- a multiple stays, and so does a multiple that is added
pub down-stays : (d : ℕ) {n : ℕ} → d ∣ n → round_down n d ≡ n
unfolding round_down
down-stays d h = omega (arith, mod-eq-zero_of_dvd d h)

pub down-sum : (n d : ℕ) {x : ℕ} → d ∣ x → round_down (x + n) d ≡ x + round_down n d
unfolding round_down
down-sum n d h = omega (arith, mod-le n d, mod-above n d h)

pub down-one : (n : ℕ) → round_down n 1 ≡ n
down-one n = down-stays 1 (one-dvd n)

pub down-small : {n d : ℕ} → n < d → round_down n d ≡ 0
unfolding round_down
down-small h = omega (arith, mod-eq_of_lt h)

-- the greatest such multiple, and the only one that is near
from : (n d : ℕ) {x : ℕ} → d ∣ x → x ≤ n → round_down n d ≡ x + round_down (n - x) d
from n d {x} h l = ap (λ (m : ℕ). round_down m d) (sym (add-sub_of_le l)) ∙ down-sum (n - x) d h

pub down-greatest : (n d : ℕ) {x : ℕ} → d ∣ x → x ≤ n → x ≤ round_down n d
down-greatest n d h l = omega (arith, from n d h l)

pub down_is : (n d : ℕ) {x : ℕ} → d ∣ x → x ≤ n → n < x + d → round_down n d ≡ x
down_is n d {x} h l g =
    let rest : n - x < d = omega arith in
    omega (arith, from n d h l, down-small rest)

pub down-monotone : (d : ℕ) {n m : ℕ} → n ≤ m → round_down n d ≤ round_down m d
down-monotone d {n} {m} l = down-greatest m d (down-multiple n d) (le_trans (down-at-most n d) l)

-- rounded up: at least n, less than d above it, and a multiple
pub up-at-least : (n d : ℕ) → 0 < d → n ≤ round_up n d
unfolding round_up
up-at-least n d h = omega (arith, down-near (n + (d - 1)) d h)

pub up-near : (n d : ℕ) → 0 < d → round_up n d < n + d
unfolding round_up
up-near n d h = omega (arith, down-at-most (n + (d - 1)) d)

pub up_multiple : (n d : ℕ) → d ∣ round_up n d
unfolding round_up
up_multiple n d = down-multiple (n + (d - 1)) d

-- a multiple stays, and so does a multiple that is added
pub up-sum : (n d : ℕ) {x : ℕ} → d ∣ x → round_up (x + n) d ≡ x + round_up n d
unfolding round_up
up-sum n d {x} h = ap (λ (m : ℕ). round_down m d) (add_assoc x n (d - 1)) ∙ down-sum (n + (d - 1)) d h

pub up-stays : (d : ℕ) {n : ℕ} → d ∣ n → round_up n d ≡ n
unfolding round_up round_down
up-stays d {n} h = omega (arith, down-sum (d - 1) d h, short d)
  where
    short : (e : ℕ) → round_down (e - 1) e ≡ 0
    short zero = refl
    short (suc e) = down-small (omega arith)

pub up_one : (n : ℕ) → round_up n 1 ≡ n
up_one n = up-stays 1 (one-dvd n)

pub up-zero : (d : ℕ) → round_up 0 d ≡ 0
up-zero d = up-stays d (dvd-zero d)

-- the least such multiple, and the only one that is near
pub up-monotone : (d : ℕ) {n m : ℕ} → n ≤ m → round_up n d ≤ round_up m d
unfolding round_up
up-monotone d l = down-monotone d (omega arith)

pub up_least : (n d : ℕ) {x : ℕ} → d ∣ x → n ≤ x → round_up n d ≤ x
up_least n d h l = omega (arith, up-monotone d l, up-stays d h)

pub up_is : (n d : ℕ) {x : ℕ} → d ∣ x → n ≤ x → x < n + d → round_up n d ≡ x
unfolding round_up
up_is n d h l g = down_is (n + (d - 1)) d h (omega arith) (omega arith)

-- taken off a multiple, one rounding becomes the other
pub down-difference : (n d : ℕ) {x : ℕ} → 0 < d → d ∣ x → n ≤ x → round_down (x - n) d ≡ x - round_up n d
down-difference n d {x} p h l =
    let low = up-at-least n d p in
    let top = up_least n d h l in
    let near = up-near n d p in
    down_is (x - n) d (dvd-sub d h (up_multiple n d)) (omega arith) (omega arith)

pub up-difference : (n d : ℕ) {x : ℕ} → 0 < d → d ∣ x → n ≤ x → round_up (x - n) d ≡ x - round_down n d
up-difference n d {x} p h l =
    let top = down-at-most n d in
    let near = down-near n d p in
    up_is (x - n) d (dvd-sub d h (down-multiple n d)) (omega arith) (omega arith)

-- rounded down twice, where one divisor is a multiple of the other
pub down-coarser : (n p q : ℕ) → p ∣ q → round_down (round_down n p) q ≡ round_down n q
down-coarser n p q h =
    le_antisymm (down-monotone q (down-at-most n p))
    (down-greatest (round_down n p) q (down-multiple n q) (down-greatest n p (dvd_trans p h (down-multiple n q)) (down-at-most n q)))

pub down-finer : (n p q : ℕ) → q ∣ p → round_down (round_down n p) q ≡ round_down n p
down-finer n p q h = down-stays q (dvd_trans q h (down-multiple n p))
