-- `rounding::remainder_by_power` meets its contract: a power of two less one is a mask of the digits below it. Assumes nothing.
use Prim.Native.Nat.{ℕ, ◌-◌, ◌%◌}
use mathlib.Core.Path.{◌≡◌}
use lib.Bits.{bit_and, and_mask}
use Rattle.rounding.proofs.Powers.{Power, one-bit-power}
use Rattle.rounding.proofs.remainder_by_power.Goals as goal

masked : (n : ℕ) {m : ℕ} → Power m → bit_and n (m - 1) ≡ n % m
masked n p = rw p.value (and_mask n p.exponent)

pub returns : goal.returns
returns c = masked c.args.n (one-bit-power c.args.power c.requires)
