-- `fast::parts::head_of` meets its contract. Assumes nothing.
use mathlib.Core.Path.{refl}
use Rattle.fast.specs.Parts.{head_of}
use Rattle.fast.proofs.parts.head_of.Goals as goal

pub returns : goal.returns
unfolding head_of
returns c = refl
