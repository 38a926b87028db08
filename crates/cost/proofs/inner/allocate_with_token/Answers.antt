-- The record that the call leaves is sound, as the next one asks.
use mathlib.Core.Path.{ap, ◌∙◌}
use Rattle.arena.specs.Sound.{sound_of}
use Rattle.calls.proofs.StaysSound.{with-token-sound}
use Rattle.cost.proofs.inner.allocate_with_token.Goals as goal

pub returns : goal.returns
returns c = ap (λ o. sound_of o.arena) c.allocate_with_token_placed-got.ensures ∙ with-token-sound _ c.args.a.now.sound _ _ _
