-- `fast::allocate::miravoly_fast_allocate` meets its contract: an unsound record or another region's length is refused, and the rest is the sound record's.
-- Assumes nothing.
use lib.ListN.{length}
use Rattle.calls.proofs.Requests.{allocate-lent}
use Rattle.host.specs.Said.{said_given}
use Rattle.fast.proofs.InParts.{lent-refused, lent-passed}
use Rattle.fast.proofs.allocate.miravoly_fast_allocate.Goals as goal

pub returns-in-Err : goal.returns-in-Err
unfolding said_given
returns-in-Err c =
    let s = c.args in
    let n = length s.region.now in
    let stopped = allocate-lent _ n s.size s.align (lent-refused c.lent_in.ensures n c.lent_answer.ensures c.in-Err.is) in
    record { value = rw stopped c.into.ensures; pointers_after = rw stopped }

pub miravoly_sound_allocate-requires : goal.miravoly_sound_allocate-requires
miravoly_sound_allocate-requires c =
    let lent = lent-passed c.lent_in.ensures (length c.args.region.now) c.lent_answer.ensures c.in_default.is in
    lent.sound

pub returns : goal.returns
returns c =
    let lent = lent-passed c.lent_in.ensures (length c.args.region.now) c.lent_answer.ensures c.in_default.is in
    record { value = rw lent.whole c.miravoly_sound_allocate.ensures.value; pointers_after = rw lent.whole c.miravoly_sound_allocate.ensures.pointers_after }
