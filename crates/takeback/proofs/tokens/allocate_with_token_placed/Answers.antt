-- `takeback::tokens::allocate_with_token_placed` meets its contract: the token is what the arena was before the allocation. Assumes nothing.
use mathlib.Core.Path.{◌∙◌, ap}
use Rattle.arena.specs.Inner.{lent_of, changed_by}
use Rattle.calls.specs.declared.Token.{Token}
use Rattle.calls.specs.declared.TokenAllocation.{TokenAllocation}
use Rattle.calls.specs.Token.{with_token_of}
use Rattle.calls.specs.Inner.{with_token}
use Rattle.takeback.proofs.tokens.allocate_with_token_placed.Goals as goal
use Rattle.arena.specs.Refusals.{Allocation}

pub returns : goal.returns
unfolding with_token_of
returns c =
    let a = lent_of c.args.a.now.lent in
    let got = c.allocate_placed-got.result in
    let told : Token → TokenAllocation = λ token. record { answer = got.answer; token = token; arena = changed_by got.change a } in
    ap told c.token_given.ensures
    ∙ ap (λ (o : Allocation). with_token o c.token_for-before.result) c.allocate_placed-got.ensures
    ∙ ap (with_token _) c.token_for-before.ensures
