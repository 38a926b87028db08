-- `takeback::tokens::allocate_with_token_on` meets its contract: an unsound record or another region's length is refused, and the rest is the sound
-- record's. Assumes nothing.
use mathlib.Core.Path.{refl, sym, ◌∙◌, ap}
use lib.ListN.{length}
use Rattle.arena.specs.declared.Arena.{Arena}
use Rattle.arena.specs.Inner.{lent_of}
use Rattle.arena.specs.Record.{held_of}
use Rattle.arena.specs.Refusals.{Allocation}
use Rattle.calls.specs.declared.TokenAllocation.{TokenAllocation}
use Rattle.calls.specs.Inner.{lent_tests, first_of, with_token, token_placed_of}
use Rattle.calls.specs.Token.{token_for, token_given, with_token_of}
use Rattle.calls.proofs.Cancelling.{no-token}
use Rattle.calls.proofs.Requests.{allocate-lent}
use Rattle.takeback.proofs.tokens.allocate_with_token_on.Goals as goal

pub returns-in-Err : goal.returns-in-Err
unfolding with_token_of token_given
returns-in-Err c =
    let s = c.args in
    let n = length s.region.now in
    let stopped = allocate-lent s.a.now n s.size s.align (sym (ap (λ (a : Arena). first_of (lent_tests a n)) c.lent.ensures) ∙ c.in-Err.ensures.err) in
    record {
      value = rw stopped refl;
      token = no-token c.default.ensures ∙ sym (ap (λ (o : Allocation). (with_token o (token_for (held_of s.a.now))).token) stopped);
      arena_after = sym (ap (λ (o : Allocation). o.arena) stopped);
    }

pub returns : goal.returns
returns c =
    let s = c.args in
    let own = ap lent_of c.in-Ok.ensures.ok.0 ∙ c.lent.ensures in
    let whole = c.in-Ok.ensures.ok.1 ∙ ap (λ (a : Arena). a.head.region) c.lent.ensures in
    let got = c.allocate_with_token_placed-got.result in
    let e =
    ap (λ (a : Arena). token_placed_of a got) (sym own) ∙ c.allocate_with_token_placed-got.ensures
    ∙ ap (λ (a : Arena). with_token_of a a.head.region s.size s.align) own in
    record {
      value = rw whole (ap (λ (o : TokenAllocation). o.answer) e);
      token = rw whole (ap (λ (o : TokenAllocation). o.token) e);
      arena_after = rw whole (c.change.ensures ∙ ap (λ (o : TokenAllocation). o.arena) e);
    }
