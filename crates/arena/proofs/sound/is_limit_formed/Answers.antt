-- `arena::sound::is_limit_formed` meets its contract: the code goes through the definition's tests in their order.
-- Assumes nothing.
use borrow.Author.Tests.{eq-eqb, ne_eqb}
use Rattle.arena.specs.Sound.{limit_formed}
use Rattle.arena.proofs.sound.is_limit_formed.Goals as goal

pub returns-then-h-eq1 : goal.returns-then-h-eq1
unfolding limit_formed
returns-then-h-eq1 c = rw (eq-eqb c.args.h.limited 1 c.if-h-eq1.true)

pub returns-then-h-ne0 : goal.returns-then-h-ne0
unfolding limit_formed
returns-then-h-ne0 c =
    let limited = c.args.h.limited in
    rw (ne_eqb limited 1 c.if-h-eq1.false, ne_eqb limited 0 c.if-h-ne0.true)

pub returns : goal.returns
unfolding limit_formed
returns c =
    let limited = c.args.h.limited in
    rw (ne_eqb limited 1 c.if-h-eq1.false, eq-eqb limited 0 c.if-h-ne0.false)
