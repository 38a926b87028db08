-- `requests::print::put_numbered` meets its contract: the two texts join. Assumes nothing.
use native.Mathlib.Omega.{arith}
use Rattle.requests.proofs.Putting.{put_then}
use Rattle.requests.proofs.print.put_numbered.Goals as goal

pub returns : goal.returns
returns c = put_then (omega arith) c.put_number-next.ensures.put c.put_text.ensures
