-- `requests::print::put_line` meets its contract: by the reply's case, the number and the text after it join. Assumes nothing.
use Rattle.std.proofs.Common.{arith}
use Rattle.requests.specs.Text.{line_of}
use Rattle.requests.specs.Inner.{reply_said}
use Rattle.requests.proofs.Putting.{put_then}
use Rattle.requests.proofs.print.put_line.Goals as goal

pub returns-in-Ok-Some : goal.returns-in-Ok-Some
unfolding line_of reply_said
returns-in-Ok-Some c =
    let said = rw c.in-Ok-Some.is at c.in-Ok-Some.field-0-is in
    rw (c.in-Ok-Some.is, said) (put_then (omega arith) c.put_number-next.ensures.put c.put_ended.ensures)

pub returns-in-Ok-None : goal.returns-in-Ok-None
unfolding line_of reply_said
returns-in-Ok-None c =
    let said = rw c.in-Ok-None.is at c.in-Ok-None.field-0-is in rw (c.in-Ok-None.is, said) (put_then (omega arith) c.put_number-next.ensures.put c.put_text.ensures)

pub returns-in-Err : goal.returns-in-Err
unfolding line_of reply_said
returns-in-Err c =
    rw (c.in-Err.is, ← c.number.ensures.value) (put_then (omega arith) c.put_number-next.ensures.put c.put_ended-in-Err.ensures)
