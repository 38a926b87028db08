use Rattle.cost.proofs.Kept.{reset-keeps}
use Rattle.cost.proofs.inner.reset.Goals as goal

pub returns : goal.returns
returns g c = reset-keeps _ c.args._a.now.sound
