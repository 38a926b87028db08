-- `rounding::next_power_of_two` meets its contract: there is one least power of two at or above n, the library's and the definition's. Assumes nothing.
use native.Mathlib.Omega.{arith}
use mathlib.Core.Path.{sym}
use Rattle.rounding.proofs.Powers.{next_is}
use Rattle.rounding.proofs.next_power_of_two.Goals as goal

pub returns : goal.returns
returns c =
    let next = c.next_power_of_two.ensures in
    sym (next_is (omega arith) (next.power, next.lower_bound, next.upper_bound))
