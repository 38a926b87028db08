-- `takeback::tokens::token_given` meets its contract: each case of the answer is a clause of the definition. Assumes nothing.
use Rattle.calls.specs.Token.{token_given}
use Rattle.calls.proofs.Cancelling.{no-token}
use Rattle.takeback.proofs.tokens.token_given.Goals as goal

pub returns-in-Ok : goal.returns-in-Ok
unfolding token_given
returns-in-Ok c = rw c.in-Ok.is

pub returns-in-Err : goal.returns-in-Err
unfolding token_given
returns-in-Err c = rw c.in-Err.is (no-token c.default.ensures)
