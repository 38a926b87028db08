-- `calls::refusals::lent_sound` meets its contract: each way out is the first test that applies, or none. Assumes nothing.
use Rattle.calls.proofs.Testing.{lent-state, lent-region}
use Rattle.calls.proofs.refusals.lent_sound.Goals as goal

pub returns-in_default-clause-err : goal.returns-in_default-clause-err
returns-in_default-clause-err c = lent-state _ _ c.in_default.ensures.unsound

pub returns-then-lent-a-clause-err : goal.returns-then-lent-a-clause-err
returns-then-lent-a-clause-err c =
    rw (← c.in-Some.ensures.same) (lent-region _ _ c.in-Some.sound.sound (rw c.in-Some.ensures.same c.if-lent-a.true))
