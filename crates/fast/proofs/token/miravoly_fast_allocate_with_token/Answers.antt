-- `fast::token::miravoly_fast_allocate_with_token` meets its contract: an unsound record or another region's length is refused, and the rest is the sound record's.
-- Assumes nothing.
use lib.ListN.{length}
use Rattle.calls.specs.Token.{token_given, with_token_of}
use Rattle.calls.proofs.Cancelling.{no-token}
use Rattle.calls.proofs.Requests.{allocate-lent}
use Rattle.host.specs.Said.{said_token}
use Rattle.fast.proofs.InParts.{lent-refused, lent-passed}
use Rattle.fast.proofs.token.miravoly_fast_allocate_with_token.Goals as goal

pub returns-in-Err : goal.returns-in-Err
unfolding with_token_of token_given said_token
returns-in-Err c =
    let s = c.args in
    let n = length s.region.now in
    let stopped = allocate-lent _ n s.size s.align (lent-refused c.lent_in.ensures n c.lent_answer.ensures c.in-Err.is) in
    record { value = rw (stopped, c.said_token.ensures, no-token c.default.ensures); pointers_after = rw stopped }

pub miravoly_sound_allocate_with_token-requires : goal.miravoly_sound_allocate_with_token-requires
miravoly_sound_allocate_with_token-requires c = (lent-passed c.lent_in.ensures (length c.args.region.now) c.lent_answer.ensures c.in_default.is).sound

pub returns : goal.returns
returns c =
    let lent = lent-passed c.lent_in.ensures (length c.args.region.now) c.lent_answer.ensures c.in_default.is in
    record {
      value = rw lent.whole c.miravoly_sound_allocate_with_token.ensures.value;
      pointers_after = rw lent.whole c.miravoly_sound_allocate_with_token.ensures.pointers_after;
    }
