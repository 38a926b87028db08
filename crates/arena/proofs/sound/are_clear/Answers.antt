-- `arena::sound::are_clear` meets its contract: the code goes through the definition's two tests.
-- Assumes nothing.
use borrow.Author.Tests.{le-leb, lt-leb}
use Rattle.arena.specs.Record.{past_of}
use Rattle.arena.specs.Sound.{clear}
use Rattle.arena.proofs.sound.are_clear.Goals as goal

pub returns-then-c-d : goal.returns-then-c-d
unfolding clear
returns-then-c-d c =
    let args = c.args in
    rw (le-leb (past_of args.c) args.d.start c.if-c-d.true)

pub returns : goal.returns
unfolding clear
returns c =
    let args = c.args in
    rw (lt-leb (past_of args.c) args.d.start c.if-c-d.false)
