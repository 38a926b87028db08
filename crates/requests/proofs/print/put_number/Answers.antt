-- `requests::print::put_number` meets its contract: the digits that the kit's `decimal` makes are the number's text. Assumes nothing.
use native.Mathlib.Omega.{arith}
use mathlib.Core.Path.{◌∙◌}
use Rattle.requests.proofs.Decimal.{digits_decimal, fewest-bound}
use Rattle.requests.proofs.print.put_number.Goals as goal

pub returns : goal.returns
returns c =
    let d = c.decimal-k in
    let bound = fewest-bound d.result _ c.ranges.n.fits d.ensures.len in
    record {
      put = rw (← (d.ensures.digits ∙ digits_decimal d.result _ bound d.ensures.len)) c.put_text.ensures;
      bound = omega (arith, c.put_text.ensures.moved, d.ensures.in_bounds);
    }
