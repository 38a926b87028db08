-- `arena::sound::is_allowed_minimum` meets its contract: the test is the definition's. Assumes nothing.
use Rattle.arena.specs.Sound.{allowed_minimum}
use Rattle.arena.proofs.sound.is_allowed_minimum.Goals as goal

pub returns : goal.returns
unfolding allowed_minimum
returns c = c.has_one_bit_up_to.ensures
