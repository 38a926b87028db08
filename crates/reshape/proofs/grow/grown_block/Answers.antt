-- `reshape::grow::grown_block` meets its contract: the pointer in place moves, or else the block is a fresh one. Assumes nothing.
use Rattle.std.specs.Prelude.{None}
use mathlib.Core.Path.{refl, sym, ◌∙◌, ap}
use Rattle.arena.specs.Record.{held_of}
use Rattle.arena.specs.Inner.{lent_of}
use Rattle.calls.specs.Allocate.{given}
use Rattle.calls.specs.Inner.{answered_of}
use Rattle.calls.proofs.Growing.{grown-lacks, grown-moved, grows-in-place, grows-afresh}
use Rattle.calls.proofs.Placing.{placed-moved}
use Rattle.calls.proofs.Requests.{allocate-works}
use Rattle.reshape.proofs.grow.grown_block.Goals as goal

pub returns-in_default : goal.returns-in_default
returns-in_default c =
    let a = lent_of c.args.a.now.lent in
    let full = sym c.in_place.ensures ∙ c.in_default.is in
    c.allocate_in_full.ensures
    ∙ allocate-works a _ c.args.new.size c.args.new.align refl c.requires.request
    ∙ sym
    (ap (given None a)
    (grows-afresh a.head (held_of a) c.args.block.offset c.args.block.layout.size c.args.block.layout.align c.args.new.size c.args.new.align
    (grown-lacks a.head.minimum (held_of a) c.args.block.offset c.args.block.layout.size c.args.block.layout.align c.args.new.size c.args.new.align full)))

pub returns : goal.returns
returns c =
    let a = lent_of c.args.a.now.lent in
    let room = sym c.in_place.ensures ∙ c.in-Some.is in
    ap (answered_of a) c.moved.ensures
    ∙ placed-moved a
    (grows-in-place a.head (held_of a) c.args.block.offset c.args.block.layout.size c.args.block.layout.align c.args.new.size c.args.new.align
    (grown-moved a.head.minimum (held_of a) c.args.block.offset c.args.block.layout.size c.args.block.layout.align c.args.new.size c.args.new.align room))
