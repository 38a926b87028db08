-- `arena::creation::refused_creation` meets its contract. Assumes nothing.
use Rattle.std.specs.Prelude.{Err}
use Rattle.arena.specs.Creation.{refused_creation}
use Rattle.arena.proofs.creation.refused_creation.Goals as goal

pub returns : goal.returns
unfolding refused_creation
returns c = λ i. record { answer = Err c.args.r; arena = c.emptied-none.ensures i }
