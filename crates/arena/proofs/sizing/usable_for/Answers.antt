-- `arena::sizing::usable_for` meets its contract: what is rounded up holds the overhead that is taken off. Assumes nothing.
use Prim.Native.Nat.{◌+◌, ◌^◌, ◌≤◌}
use native.Mathlib.Omega.{arith}
use Rattle.rounding.proofs.Rounding.{up-at-least}
use Rattle.rounding.specs.Round.{next_power}
use Rattle.rounding.proofs.Powers.{Next, next_power_lem}
use Rattle.arena.specs.Numbers.{overhead, page}
use Rattle.arena.proofs.sizing.usable_for.Goals as goal

pub overflow_sub-result : goal.overflow_sub-result
overflow_sub-result c =
    let whole = c.args.m + overhead in
    let short : whole ≤ 2 ^ 64 = omega arith in
    let next : Next whole (next_power whole) = search next_power_lem in
    omega (arith, next.above)

pub overflow_sub-result-2 : goal.overflow_sub-result-2
overflow_sub-result-2 c = omega (arith, up-at-least (c.args.m + overhead) page (omega arith))
