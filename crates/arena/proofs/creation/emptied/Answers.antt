-- `arena::creation::emptied` meets its contract: a table of zeros is what the definition writes for no chunk. Assumes nothing.
use mathlib.Core.Path.{refl}
use Rattle.arena.specs.Record.{column, holding}
use Rattle.arena.proofs.creation.emptied.Goals as goal

pub returns : goal.returns
unfolding holding column
returns c = refl
