-- `requests::print::put_held` meets its contract: the five texts join. Assumes nothing.
use native.Mathlib.Omega.{arith}
use Rattle.requests.proofs.Putting.{put_then}
use Rattle.requests.proofs.print.put_held.Goals as goal

pub returns : goal.returns
returns c =
    put_then (omega arith) c.put_text-held.ensures
    (put_then (omega arith) c.put_number-middle.ensures.put
    (put_then (omega arith) c.put_text-count.ensures (put_then (omega arith) c.put_number-end.ensures.put c.put_text.ensures)))
