-- `calls::free::free_ended` meets its contract: the block's refusal, or the work on a block that lies in the region. Assumes nothing.
use mathlib.Core.Path.{sym, ◌∙◌}
use Rattle.calls.proofs.Freeing.{free-block, free-works}
use Rattle.calls.proofs.Placing.{answered-refused}
use Rattle.calls.proofs.Testing.{tests-refuse, tests-pass, block-passes, block_inside}
use Rattle.calls.proofs.free.free_ended.Goals as goal
use Rattle.std.specs.Prelude.{Ok}
use Rattle.arena.specs.Inner.{lent_of}

pub returns-in-Err : goal.returns-in-Err
returns-in-Err c =
    let a = lent_of c.args.a.now.lent in
    answered-refused a c.refused.ensures
    ∙ sym
    (free-block a c.args.block.offset c.args.block.layout.size c.args.block.layout.align c.args.a.now.sound
    (tests-refuse _ (sym c.in-Err.is ∙ c.block_answer.ensures)))

pub free_tested-requires : goal.free_tested-requires
free_tested-requires c =
    let a = lent_of c.args.a.now.lent in
    let named = block-passes a c.args.block.offset c.args.block.layout.size c.args.block.layout.align (tests-pass _ (sym c.in_default.is ∙ c.block_answer.ensures)) in
    (block_inside a c.args.block.offset c.args.block.layout.size c.args.block.layout.align c.args.a.now.sound named.block)

pub returns : goal.returns
returns c =
    let a = lent_of c.args.a.now.lent in
    (λ i. record { answer = Ok tt; arena = c.free_tested.ensures i })
    ∙ sym
    (free-works a c.args.block.offset c.args.block.layout.size c.args.block.layout.align c.args.a.now.sound
    (tests-pass _ (sym c.in_default.is ∙ c.block_answer.ensures)))
