-- `calls::allocate::allocate_in_full` meets its contract: of a sound record in its own region, only the size and the alignment are left to test, and then
-- the current chunk gives the block, or else the ladder's.
-- Assumes nothing.
use Rattle.std.specs.Prelude.{None}
use mathlib.Core.Path.{refl, sym, ◌∙◌, ap}
use Rattle.rounding.proofs.Tests.{taken_false, left-true}
use Rattle.arena.specs.Record.{held_of}
use Rattle.calls.specs.Allocate.{given}
use Rattle.calls.specs.Inner.{answered_of}
use Rattle.calls.proofs.Giving.{sound-tested, current-lacks, current-moved, from-current, from-ladder}
use Rattle.calls.proofs.Placing.{placed-refused, placed-moved}
use Rattle.calls.proofs.Requests.{allocate-size, allocate-align, allocate-works}
use Rattle.calls.proofs.allocate.allocate_in_full.Goals as goal
use Rattle.arena.specs.Inner.{lent_of}

pub returns-then-layout-gt-MOST : goal.returns-then-layout-gt-MOST
returns-then-layout-gt-MOST c =
    let a = lent_of c.args.a.now.lent in
    placed-refused a c.refused.ensures ∙ sym (allocate-size a _ c.args.layout.size c.args.layout.align c.args.a.now.sound refl c.if-layout-gt-MOST.true)

pub returns-then-not-is_allowed_align : goal.returns-then-not-is_allowed_align
returns-then-not-is_allowed_align c =
    let a = lent_of c.args.a.now.lent in
    placed-refused a c.refused-then-not-is_allowed_align.ensures
    ∙ sym
    (allocate-align a _ c.args.layout.size c.args.layout.align c.args.a.now.sound refl c.if-layout-gt-MOST.false
    (taken_false c.is_allowed_align.ensures c.if-not-is_allowed_align.true))

pub invariant_of-request : goal.invariant_of-request
invariant_of-request c = record { size = c.if-layout-gt-MOST.false; align = left-true c.is_allowed_align.ensures c.if-not-is_allowed_align.false }

pub returns-in_default : goal.returns-in_default
returns-in_default c =
    let tested =
    sound-tested c.args.a.now.sound (c.if-layout-gt-MOST.false, left-true c.is_allowed_align.ensures c.if-not-is_allowed_align.false) in
    let a = lent_of c.args.a.now.lent in
    let full = sym c.current_gives.ensures ∙ c.in_default.is in
    c.placed_slow.ensures
    ∙ sym
    (ap (given None a)
    (from-ladder a.head (held_of a) c.args.layout.size c.args.layout.align (current-lacks a.head.minimum (held_of a) c.args.layout.size c.args.layout.align full)))
    ∙ sym (allocate-works a _ c.args.layout.size c.args.layout.align refl tested)

pub returns : goal.returns
returns c =
    let tested =
    sound-tested c.args.a.now.sound (c.if-layout-gt-MOST.false, left-true c.is_allowed_align.ensures c.if-not-is_allowed_align.false) in
    let a = lent_of c.args.a.now.lent in
    let room = sym c.current_gives.ensures ∙ c.in-Some.is in
    ap (answered_of a) c.moved.ensures
    ∙ placed-moved a
    (from-current a.head (held_of a) c.args.layout.size c.args.layout.align (current-moved a.head.minimum (held_of a) c.args.layout.size c.args.layout.align room))
    ∙ sym (allocate-works a _ c.args.layout.size c.args.layout.align refl tested)
