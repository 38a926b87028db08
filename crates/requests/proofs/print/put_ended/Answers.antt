-- `requests::print::put_ended` meets its contract: the three texts join. Assumes nothing.
use native.Mathlib.Omega.{arith}
use Rattle.requests.proofs.Putting.{put_then}
use Rattle.requests.proofs.print.put_ended.Goals as goal

pub returns : goal.returns
returns c = put_then (omega arith) c.put_text-number.ensures (put_then (omega arith) c.put_number-end.ensures.put c.put_text.ensures)
