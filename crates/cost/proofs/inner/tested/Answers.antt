use Rattle.cost.proofs.Kept.{same-keeps}
use Rattle.cost.proofs.inner.tested.Goals as goal

pub returns : goal.returns
returns c = same-keeps _ c.args._a.now.sound
