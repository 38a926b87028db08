-- `host::answers::SaidFromResultUsizeRefusal::from` meets its contract: each case of the answer is a clause of the definition. Assumes nothing.
use Rattle.host.specs.Said.{said_given}
use Rattle.host.proofs.answers.SaidFromResultUsizeRefusal.from.Goals as goal

pub returns-in-Ok : goal.returns-in-Ok
unfolding said_given
returns-in-Ok c = rw c.in-Ok.is

pub returns-in-Err : goal.returns-in-Err
unfolding said_given
returns-in-Err c = rw c.in-Err.is c.into.ensures
