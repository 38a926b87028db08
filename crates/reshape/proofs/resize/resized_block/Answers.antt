-- `reshape::resize::resized_block` meets its contract: a smaller or equal size is a shrink, a larger one a grow. Assumes nothing.
use Rattle.std.specs.Prelude.{None}
use mathlib.Core.Path.{sym, ◌∙◌, ap}
use Rattle.arena.specs.declared.Arena.{Arena}
use Rattle.arena.specs.Record.{held_of}
use Rattle.arena.specs.Inner.{lent_of}
use Rattle.calls.specs.Allocate.{given}
use Rattle.calls.proofs.Needing.{resize-down, resize-up}
use Rattle.reshape.proofs.resize.resized_block.Goals as goal

pub returns-then-new-block : goal.returns-then-new-block
returns-then-new-block c =
    let own : Arena = lent_of c.args.a.now.lent in
    let a = c.args in
    c.shrunk_block.ensures
    ∙ sym (ap (given None own) (resize-down own.head (held_of own) a.block.offset a.block.layout.size a.block.layout.align a.new c.requires.nonzero.0 c.if-new-block.true))

pub returns : goal.returns
returns c =
    let own : Arena = lent_of c.args.a.now.lent in
    let a = c.args in
    c.grown_block.ensures
    ∙ sym (ap (given None own) (resize-up own.head (held_of own) a.block.offset a.block.layout.size a.block.layout.align a.new c.requires.nonzero.0 c.if-new-block.false))
