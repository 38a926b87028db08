-- The record that the call leaves is sound, as the next one asks.
use mathlib.Core.Path.{ap, ◌∙◌}
use Rattle.arena.specs.Sound.{sound_of}
use Rattle.calls.proofs.StaysSound.{grow-sound}
use Rattle.cost.proofs.inner.grow.Goals as goal

pub returns : goal.returns
returns c = ap (λ o. sound_of o.arena) c.grow_placed.ensures.placed_by ∙ grow-sound _ c.args.a.now.sound _ _ _ _ _ _
