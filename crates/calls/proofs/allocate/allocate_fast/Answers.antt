-- `calls::allocate::allocate_fast` meets its contract: where it answers a pointer, nothing refuses and the current chunk gives it. Assumes nothing.
use mathlib.Core.Path.{refl, sym, ◌∙◌}
use Rattle.rounding.proofs.Tests.{left-true}
use Rattle.arena.specs.Record.{held_of}
use Rattle.std.proofs.lemmas.Option.{none-some}
use Rattle.calls.proofs.Giving.{sound-tested, current-moved, from-current}
use Rattle.calls.proofs.Placing.{placed-moved}
use Rattle.calls.proofs.Requests.{allocate-works}
use Rattle.calls.proofs.allocate.allocate_fast.Goals as goal
use Rattle.arena.specs.Inner.{lent_of}

pub returns-then-a-eq0 : goal.returns-then-a-eq0
returns-then-a-eq0 c = λ p e. absurd (none-some p e)

pub returns-then-layout-gt-MOST : goal.returns-then-layout-gt-MOST
returns-then-layout-gt-MOST c = λ p e. absurd (none-some p e)

pub returns-then-not-is_allowed_align : goal.returns-then-not-is_allowed_align
returns-then-not-is_allowed_align c = λ p e. absurd (none-some p e)

pub invariant_of-request : goal.invariant_of-request
invariant_of-request c = record { size = c.if-layout-gt-MOST.false; align = left-true c.is_allowed_align.ensures c.if-not-is_allowed_align.false }

pub returns : goal.returns
returns c =
    let tested =
    sound-tested c.args.a.now.sound (c.if-layout-gt-MOST.false, left-true c.is_allowed_align.ensures c.if-not-is_allowed_align.false) in
    λ p e.
    let a = lent_of c.args.a.now.lent in
    let room = sym c.current_gives.ensures ∙ e in
    placed-moved a
    (from-current a.head (held_of a) c.args.layout.size c.args.layout.align (current-moved a.head.minimum (held_of a) c.args.layout.size c.args.layout.align room))
    ∙ sym (allocate-works a _ c.args.layout.size c.args.layout.align refl tested)
