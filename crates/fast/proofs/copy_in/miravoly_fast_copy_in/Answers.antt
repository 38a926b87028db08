-- `fast::copy_in::miravoly_fast_copy_in` meets its contract: an unsound record or another region's length is refused, and the rest is the sound record's.
-- Assumes nothing.
use lib.ListN.{length}
use Rattle.calls.proofs.Requests.{allocate-lent}
use Rattle.calls.specs.Bytes.{after_given}
use Rattle.calls.specs.Write.{copy_in_bytes}
use Rattle.host.specs.Said.{said_given}
use Rattle.fast.proofs.InParts.{lent-refused, lent-passed}
use Rattle.fast.proofs.copy_in.miravoly_fast_copy_in.Goals as goal

pub returns-in-Err : goal.returns-in-Err
unfolding said_given after_given copy_in_bytes
returns-in-Err c =
    let s = c.args in
    let n = length s.region.now in
    let stopped = allocate-lent _ n (length s.source.now) s.align (lent-refused c.lent_in.ensures n c.lent_answer.ensures c.in-Err.is) in
    record { value = rw stopped c.into.ensures; pointers_after = rw stopped; region_after = rw stopped }

pub miravoly_sound_copy_in-requires : goal.miravoly_sound_copy_in-requires
miravoly_sound_copy_in-requires c =
    let lent = lent-passed c.lent_in.ensures (length c.args.region.now) c.lent_answer.ensures c.in_default.is in
    (lent.sound, lent.whole)
