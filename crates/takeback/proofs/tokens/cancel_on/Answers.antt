-- `takeback::tokens::cancel_on` meets its contract: an unsound record is refused, and the rest is the sound record's. Assumes nothing.
use mathlib.Core.Path.{refl}
use Rattle.calls.proofs.Cancelling.{cancel-state}
use Rattle.takeback.proofs.tokens.cancel_on.Goals as goal

pub returns-in_default : goal.returns-in_default
returns-in_default c =
    let stopped = cancel-state c.args.a.now c.args.offset c.args.token c.in_default.ensures.unsound in
    record { value = rw stopped refl; arena_after = rw stopped refl }
