-- Document 01, "Order of the port", 1: rounding and powers of two.
use Rattle.std.specs.Prelude.{ℕ, ◌+◌, ◌-◌, ◌%◌, ◌^◌, Bool, leb, eqb, unwrap_or}
use Rattle.std.specs.Int.Count.{ones}
use Rattle.rounding.specs.First.{only, first}

-- n is a multiple of d
unfoldable pub multiple : ℕ → ℕ → Bool
multiple d n = eqb (n % d) 0

-- the greatest multiple of d at or below n
unfoldable pub round_down : ℕ → ℕ → ℕ
round_down n d = n - n % d

-- the least multiple of d at or above n
unfoldable pub round_up : ℕ → ℕ → ℕ
round_up n d = round_down (n + (d - 1)) d

-- "An alignment test is that exactly one bit is set"
unfoldable pub one_bit : ℕ → Bool
one_bit n = eqb (ones n) 1

-- the next power of two at or above n: the first of 1, 2, 4, .. 2 ^ 64 that is
unfoldable pub next_power : ℕ → ℕ
next_power n = unwrap_or (first 65 (λ k. only (leb n (2 ^ k)) (2 ^ k))) 0
