-- `fast::lend::miravoly_fast_lend` meets its contract: an unsound record or another region's length is refused, and the rest is the sound record's.
-- Assumes nothing.
use lib.ListN.{length}
use mathlib.Core.Path.{sym}
use Rattle.calls.proofs.Lending.{lend-refused}
use Rattle.calls.proofs.Testing.{tests-refuse}
use Rattle.fast.proofs.InParts.{lent-refused, lent-passed}
use Rattle.fast.proofs.lend.miravoly_fast_lend.Goals as goal

pub returns-in-Err : goal.returns-in-Err
returns-in-Err c =
    let s = c.args in
    let n = length s.region.now in
    let stopped = lend-refused _ n s.offset s.size s.align (tests-refuse _ (sym (lent-refused c.lent_in.ensures n c.lent_answer.ensures c.in-Err.is))) in
    rw stopped c.part_of.ensures

pub miravoly_sound_lend-requires : goal.miravoly_sound_lend-requires
miravoly_sound_lend-requires c = (lent-passed c.lent_in.ensures (length c.args.region.now) c.lent_answer.ensures c.in_default.is).sound

pub returns : goal.returns
returns c =
    let lent = lent-passed c.lent_in.ensures (length c.args.region.now) c.lent_answer.ensures c.in_default.is in
    rw lent.whole c.miravoly_sound_lend.ensures
