-- `arena::Arena::changed_if_sound` meets its contract: an unsound record is refused, and a sound one is changed. Assumes nothing.
use mathlib.Core.Path.{sym, ◌∙◌, ap}
use Rattle.rounding.proofs.Tests.{taken_false, left-true}
use Rattle.std.specs.Prelude.{Ok}
use Rattle.arena.specs.Sound.{sound_of}
use Rattle.arena.proofs.Refusing.{unsound-refused, sound-done}
use Rattle.arena.proofs.Arena.changed_if_sound.Goals as goal

pub returns-then-not-is_sound : goal.returns-then-not-is_sound
returns-then-not-is_sound c =
    sym (unsound-refused _ _ (taken_false (c.is_sound.ensures ∙ ap sound_of c.lent.ensures) c.if-not-is_sound.true))

pub changed-requires : goal.changed-requires
changed-requires c = left-true (c.is_sound.ensures ∙ ap sound_of c.lent.ensures) c.if-not-is_sound.false

pub returns : goal.returns
returns c =
    (λ i. record { answer = Ok tt; arena = c.changed.ensures i })
    ∙ sym (sound-done _ _ (left-true (c.is_sound.ensures ∙ ap sound_of c.lent.ensures) c.if-not-is_sound.false))
