-- `takeback::tokens::cancel_ended` meets its contract: of a sound record only the token is left to test. Assumes nothing.
use mathlib.Core.Path.{sym, ◌∙◌}
use Rattle.std.specs.Prelude.{Ok}
use Rattle.calls.proofs.Cancelling.{cancel-token, cancel-works}
use Rattle.calls.proofs.Placing.{answered-refused}
use Rattle.takeback.proofs.tokens.cancel_ended.Goals as goal

pub returns-then-is_bad_token : goal.returns-then-is_bad_token
returns-then-is_bad_token c =
    answered-refused _ c.refused.ensures
    ∙ sym (cancel-token _ c.args.offset c.args.token c.args.a.now.sound (sym c.is_bad_token.ensures ∙ c.if-is_bad_token.true))

pub returns : goal.returns
returns c =
    (λ i. record { answer = Ok tt; arena = c.rewind.ensures i })
    ∙ sym (cancel-works _ c.args.offset c.args.token c.args.a.now.sound (sym c.is_bad_token.ensures ∙ c.if-is_bad_token.false))
