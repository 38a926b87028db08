-- `arena::Arena::no_allocation_limit_on` meets its contract: an unsound record is refused, and a sound one is changed. Assumes nothing.
use mathlib.Core.Path.{◌∙◌, ap}
use Rattle.rounding.proofs.Tests.{taken_false, left-true}
use Rattle.arena.specs.declared.change.Change.TheVariants.{Limited}
use Rattle.arena.specs.Inner.{changed_by}
use Rattle.arena.specs.Creation.{no_limit_of}
use Rattle.arena.specs.Sound.{sound_of}
use Rattle.arena.proofs.Refusing.{unsound-refused, sound-done}
use Rattle.arena.proofs.Arena.no_allocation_limit_on.Goals as goal

pub returns-then-not-is_sound : goal.returns-then-not-is_sound
unfolding no_limit_of changed_by
returns-then-not-is_sound c =
    let s = c.args in
    let unsound = taken_false (c.is_sound.ensures ∙ ap sound_of c.lent.ensures) c.if-not-is_sound.true in
    let stopped = unsound-refused s.self.now (changed_by (Limited 0 0) s.self.now) unsound in
    record { value = rw stopped; arena_after = rw stopped }

pub returns : goal.returns
unfolding no_limit_of changed_by
returns c =
    let s = c.args in
    let sound = left-true (c.is_sound.ensures ∙ ap sound_of c.lent.ensures) c.if-not-is_sound.false in
    let done = sound-done s.self.now (changed_by (Limited 0 0) s.self.now) sound in
    record { value = rw done; arena_after = rw done c.change.ensures }
