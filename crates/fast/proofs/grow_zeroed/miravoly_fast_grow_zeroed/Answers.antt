-- `fast::grow_zeroed::miravoly_fast_grow_zeroed` meets its contract: an unsound record or another region's length is refused, and the rest is the sound record's.
-- Assumes nothing.
use lib.ListN.{length}
use Rattle.reshape.proofs.Stopping.{grow-lent}
use Rattle.calls.specs.Bytes.{after_given}
use Rattle.calls.specs.Grow.{grow_zeroed_bytes}
use Rattle.host.specs.Said.{said_given}
use Rattle.fast.proofs.InParts.{lent-refused, lent-passed}
use Rattle.fast.proofs.grow_zeroed.miravoly_fast_grow_zeroed.Goals as goal

pub returns-in-Err : goal.returns-in-Err
unfolding said_given after_given grow_zeroed_bytes
returns-in-Err c =
    let s = c.args in
    let n = length s.region.now in
    let stopped = grow-lent _ n s.offset s.old s.old_align s.new s.new_align (lent-refused c.lent_in.ensures n c.lent_answer.ensures c.in-Err.is) in
    record { value = rw stopped c.into.ensures; pointers_after = rw stopped; region_after = rw stopped }

pub miravoly_sound_grow_zeroed-requires : goal.miravoly_sound_grow_zeroed-requires
miravoly_sound_grow_zeroed-requires c =
    let lent = lent-passed c.lent_in.ensures (length c.args.region.now) c.lent_answer.ensures c.in_default.is in
    (lent.sound, lent.whole)
