-- `host::lend::part_of` meets its contract: each case of the answer is a clause of the definition. Assumes nothing.
use Rattle.host.specs.Said.{said_part}
use Rattle.host.proofs.lend.part_of.Goals as goal

pub returns-in-Ok : goal.returns-in-Ok
unfolding said_part
returns-in-Ok c = rw c.in-Ok.is

pub returns-in-Err : goal.returns-in-Err
unfolding said_part
returns-in-Err c = rw (c.in-Err.is, c.number.ensures.value)
