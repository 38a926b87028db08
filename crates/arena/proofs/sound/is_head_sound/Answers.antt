-- `arena::sound::is_head_sound` meets its contract: the code goes through the definition's four tests in their order.
-- Assumes nothing.
use mathlib.Core.Bool.{true}
use mathlib.Core.Path.{◌≡◌}
use borrow.Author.Tests.{le-leb, lt-leb}
use Rattle.arena.specs.Numbers.{most}
use Rattle.arena.specs.Sound.{allowed_minimum, head_sound}
use Rattle.rounding.proofs.Tests.{taken_false, left-true}
use Rattle.arena.proofs.sound.is_head_sound.Goals as goal

pub returns-then-not-is_allowed_minimum : goal.returns-then-not-is_allowed_minimum
unfolding head_sound
returns-then-not-is_allowed_minimum c = rw (taken_false c.is_allowed_minimum.ensures c.if-not-is_allowed_minimum.true)

pub returns-then-h-gt-MOST : goal.returns-then-h-gt-MOST
unfolding head_sound
returns-then-h-gt-MOST c =
    let allowed : allowed_minimum c.args.h.minimum ≡ true = left-true c.is_allowed_minimum.ensures c.if-not-is_allowed_minimum.false in
    let h = c.args.h in
    rw (allowed, lt-leb h.region most c.if-h-gt-MOST.true)

pub returns-then-not-is_limit_formed : goal.returns-then-not-is_limit_formed
unfolding head_sound
returns-then-not-is_limit_formed c =
    let allowed : allowed_minimum c.args.h.minimum ≡ true = left-true c.is_allowed_minimum.ensures c.if-not-is_allowed_minimum.false in
    let h = c.args.h in
    rw (allowed, le-leb h.region most c.if-h-gt-MOST.false, taken_false c.is_limit_formed.ensures c.if-not-is_limit_formed.true)

pub returns : goal.returns
unfolding head_sound
returns c =
    let allowed : allowed_minimum c.args.h.minimum ≡ true = left-true c.is_allowed_minimum.ensures c.if-not-is_allowed_minimum.false in
    let h = c.args.h in
    rw
    (allowed, le-leb h.region most c.if-h-gt-MOST.false, left-true c.is_limit_formed.ensures c.if-not-is_limit_formed.false)
