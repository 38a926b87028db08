-- `fast::free::miravoly_fast_free` meets its contract: an unsound record is refused, and the rest is the sound record's. Assumes nothing.
use Rattle.rounding.proofs.Tests.{taken_false, left-true}
use Rattle.calls.proofs.Freeing.{free-state}
use Rattle.host.specs.Said.{said_of}
use Rattle.fast.proofs.InParts.{tested}
use Rattle.fast.proofs.free.miravoly_fast_free.Goals as goal

pub returns-then-not-is_sound : goal.returns-then-not-is_sound
unfolding said_of
returns-then-not-is_sound c =
    let unsound = taken_false (tested c.lent_in.ensures c.is_sound.ensures) c.if-not-is_sound.true in
    let stopped = free-state _ c.args.offset c.args.size c.args.align unsound in
    record { value = rw stopped c.into.ensures; pointers_after = rw stopped }

pub miravoly_sound_free-requires : goal.miravoly_sound_free-requires
miravoly_sound_free-requires c = left-true (tested c.lent_in.ensures c.is_sound.ensures) c.if-not-is_sound.false
