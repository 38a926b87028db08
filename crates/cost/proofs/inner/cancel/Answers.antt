-- The record that the call leaves is sound, as the next one asks.
use mathlib.Core.Path.{ap, ◌∙◌}
use Rattle.arena.specs.Sound.{sound_of}
use Rattle.calls.proofs.StaysSound.{cancel-sound}
use Rattle.cost.proofs.inner.cancel.Goals as goal

pub returns : goal.returns
returns c = ap (λ o. sound_of o.arena) c.cancel_ended.ensures ∙ cancel-sound _ c.args.a.now.sound _ _
