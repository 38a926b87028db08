-- `arena::sound::is_allowed_align` meets its contract: the test is the definition's. Assumes nothing.
use Rattle.arena.specs.Sound.{allowed_align}
use Rattle.arena.proofs.sound.is_allowed_align.Goals as goal

pub returns : goal.returns
unfolding allowed_align
returns c = c.has_one_bit_up_to.ensures
