-- `reshape::shrink::shrunk_in_place` meets its contract: each way out is a case of the definition. Assumes nothing.
use native.Mathlib.Omega.{arith}
use mathlib.Core.Path.{◌∙◌, ap}
use Rattle.rounding.proofs.Tests.{taken_false, left-true}
use Rattle.arena.specs.Record.{held_of}
use Rattle.arena.specs.Inner.{lent_of}
use Rattle.arena.proofs.Soundness.{sound-open}
use Rattle.calls.specs.Inner.{answered_of}
use Rattle.calls.proofs.Placing.{placed-stays, placed-moved}
use Rattle.calls.proofs.Shrinking.{stays-elsewhere, stays-near, goes-up}
use Rattle.reshape.proofs.shrink.shrunk_in_place.Goals as goal

pub returns-then-not-is_at_pointer : goal.returns-then-not-is_at_pointer
returns-then-not-is_at_pointer c =
    let a = lent_of c.args.a.now.lent in
    placed-stays a c.args.a.now.sound c.stay.ensures
    (stays-elsewhere (held_of a) c.args.offset c.args.old c.args.d (taken_false c.is_at_pointer.ensures c.if-not-is_at_pointer.true))

pub overflow_add-old : goal.overflow_add-old
overflow_add-old c = omega (arith, c.requires.0, (sound-open _ c.args.a.now.sound).head.region_bound)

pub returns-then-d-old : goal.returns-then-d-old
returns-then-d-old c =
    let a = lent_of c.args.a.now.lent in
    placed-stays a c.args.a.now.sound c.stay-then-d-old.ensures (stays-near (held_of a) c.args.offset c.args.old c.args.d c.if-d-old.true)

pub overflow_add-to : goal.overflow_add-to
overflow_add-to c = omega (arith, c.requires.0, c.requires.1, (sound-open _ c.args.a.now.sound).head.region_bound)

pub returns : goal.returns
returns c =
    let a = lent_of c.args.a.now.lent in
    let there = left-true c.is_at_pointer.ensures c.if-not-is_at_pointer.false in
    ap (answered_of a) c.moved.ensures
    ∙ placed-moved a (goes-up (held_of a) c.args.offset c.args.old c.args.d there c.if-d-old.false)
