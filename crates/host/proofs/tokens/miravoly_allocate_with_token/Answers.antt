-- `host::tokens::miravoly_allocate_with_token` meets its contract: the answer and the token go as numbers. Assumes nothing.
use mathlib.Core.Path.{◌∙◌}
use Rattle.host.specs.Said.{token_said, said_token}
use Rattle.host.proofs.tokens.miravoly_allocate_with_token.Goals as goal

pub returns-clause-value : goal.returns-clause-value
unfolding said_token
returns-clause-value c =
    c.said_token.ensures ∙ (λ i. token_said (c.allocate_with_token_on-answer.ensures.value i) (c.allocate_with_token_on-answer.ensures.token i))
