-- `fast::parts::store_head` meets its contract: all five numbers are stored. Assumes nothing.
use mathlib.Core.Path.{refl}
use Rattle.fast.specs.Parts.{head_of}
use Rattle.fast.proofs.parts.store_head.Goals as goal

pub returns : goal.returns
unfolding head_of
returns c = refl
