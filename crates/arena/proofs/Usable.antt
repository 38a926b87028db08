-- The usable size of a chunk. With the overhead it is a power of two or a whole number of pages: a multiple of 64 either way, at or above what
-- is wanted and less than two pages past it. Assumes nothing.
use Prim.Native.Nat.{ℕ, ◌+◌, ◌-◌, ◌*◌, ◌^◌, ◌≤◌, ◌<◌, max, ◌∣◌}
use native.Mathlib.Nat.{le_trans, lt_of_not-le, le-max_left, le-max_right, dvd_refl, dvd_trans, dvd-add, dvd-sub}
use native.Mathlib.Decide.{dec_le}
use native.Mathlib.Omega.{arith}
use mathlib.Core.Path.{◌≡◌}
use borrow.Author.Tests.{lt-ltb, le-ltb}
use Rattle.rounding.specs.Round.{round_down, round_up, next_power}
use Rattle.rounding.proofs.Rounding.{up_multiple, up-at-least, up-near, up_least, down-greatest}
use Rattle.rounding.proofs.Powers.{Power, two-to-the, power_divides, power-max, Next, next_power_lem}
use Rattle.arena.specs.Numbers.{overhead, page, step, most, largest_align, largest_minimum}
use Rattle.arena.specs.Sizing.{place_align, wanted, usable_for, usable}

-- what a chunk is placed at a multiple of
pub place-align-power : {align : ℕ} → Power align → Power (place_align align)
place-align-power p = power-max (two-to-the 4) p

pub place-align-positive : (align : ℕ) → 0 < place_align align
place-align-positive align = omega arith

pub place-align-bound : {align : ℕ} → align ≤ largest_align → place_align align ≤ largest_align
place-align-bound h = omega arith

-- n is a usable size for m wanted bytes
pub record Sized (m n : ℕ) : Type 0 where
  pub enough : m ≤ n
  pub multiple : overhead ∣ n
  pub near : n < m + 2 * page

-- the two cases of the rule
pub usable-below-page : {m : ℕ} → m < page → usable_for m ≡ next_power (m + overhead) - overhead
unfolding usable_for
usable-below-page {m} h = rw (lt-ltb m page h)

pub usable-from-page : {m : ℕ} → page ≤ m → usable_for m ≡ round_up (m + overhead) page - overhead
unfolding usable_for
usable-from-page {m} h = rw (le-ltb m page h)

sized : (m whole : ℕ) → m + overhead ≤ whole → overhead ∣ whole → whole < m + overhead + 2 * page → Sized m (whole - overhead)
sized m whole l d g = record { enough = omega arith; multiple = dvd-sub overhead d (dvd_refl overhead); near = omega arith }

pub usable-for-sized : (m : ℕ) → Sized m (usable_for m)
usable-for-sized m = go (dec_le page m)
  where
    go : Dec (page ≤ m) → Sized m (usable_for m)
    go (yes l) =
        rw (usable-from-page l)
        (sized m (round_up (m + overhead) page)
        (up-at-least (m + overhead) page (omega arith))
        (dvd_trans overhead (power_divides (two-to-the 6) (two-to-the 12) (omega arith)) (up_multiple (m + overhead) page))
        (omega (arith, up-near (m + overhead) page (omega arith))))
    go (no g) =
        let small : m < page = lt_of_not-le g in
        let short : m + overhead ≤ 2 ^ 64 = omega arith in
        let next : Next (m + overhead) (next_power (m + overhead)) = search next_power_lem in
        rw (usable-below-page small)
        (sized m (next_power (m + overhead))
        next.above
        (power_divides (two-to-the 6) next.power (omega (arith, next.above)))
        (omega (arith, next.least (two-to-the 13) (omega arith))))

-- of a base and a request
pub usable-sized : (base size align : ℕ) → Sized (wanted base size align) (usable base size align)
unfolding usable
usable-sized base size align = usable-for-sized (wanted base size align)

module _ (base size align : ℕ) where
  pub usable-base : base ≤ usable base size align
  unfolding wanted
  usable-base = le_trans (le-max_left base (round_up size (place_align align))) (usable-sized base size align).enough

  pub usable-request : round_up size (place_align align) ≤ usable base size align
  unfolding wanted
  usable-request = le_trans (le-max_right base (round_up size (place_align align))) (usable-sized base size align).enough

  pub usable-size : size ≤ usable base size align
  usable-size = le_trans (up-at-least size (place_align align) (place-align-positive align)) usable-request

  pub usable-step : step ∣ usable base size align
  usable-step = dvd_trans step (power_divides (two-to-the 4) (two-to-the 6) (omega arith)) (usable-sized base size align).multiple

  pub usable-near : usable base size align < max base (size + place_align align) + 2 * page
  unfolding wanted
  usable-near = omega (arith, (usable-sized base size align).near, up-near size (place_align align) (place-align-positive align))

  pub usable-bound : base ≤ 2 ^ 31 → size ≤ most → align ≤ largest_align → usable base size align < 2 ^ 32
  usable-bound b s a = omega (arith, usable-near)

-- a new chunk has room for its request: what is needed, taken off its end rounded down to the alignment, is not below its start
module _ (start base size : ℕ) {align minimum : ℕ} (ha : Power align) (hm : Power minimum) (l : minimum ≤ largest_minimum) where
  needed-at-most : round_up size (max align minimum) ≤ round_up size (place_align align)
  needed-at-most =
      let divides = power_divides (power-max ha hm) (place-align-power ha) (omega arith) in
      up_least size (max align minimum) (dvd_trans (max align minimum) divides (up_multiple size (place_align align)))
      (up-at-least size (place_align align) (place-align-positive align))

  pub usable-room : place_align align ∣ start → start + round_up size (max align minimum) ≤ round_down (start + usable base size align) align
  usable-room h =
      let r = round_up size (place_align align) in
      let divides = power_divides ha (place-align-power ha) (omega arith) in
      let whole = dvd_trans align divides (dvd-add (place_align align) h (up_multiple size (place_align align))) in
      let below : start + r ≤ start + usable base size align = omega (arith, usable-request base size align) in
      omega (arith, needed-at-most, down-greatest (start + usable base size align) align whole below)
