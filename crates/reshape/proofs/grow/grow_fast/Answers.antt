-- `reshape::grow::grow_fast` meets its contract: where it answers a pointer, no test of a grow refuses and the block grows in place. Assumes nothing.
use mathlib.Core.Path.{refl, sym, ◌∙◌, ap}
use Rattle.rounding.proofs.Tests.{left-true}
use Rattle.arena.specs.declared.Arena.{Arena}
use Rattle.arena.specs.Record.{held_of}
use Rattle.arena.specs.Inner.{lent_of}
use Rattle.arena.specs.Sound.{allowed_align}
use Rattle.calls.specs.Inner.{LastBlock, GrowTested}
use Rattle.std.proofs.lemmas.Option.{none-some}
use Rattle.calls.proofs.Growing.{grown-moved, grows-in-place}
use Rattle.calls.proofs.Placing.{placed-moved}
use Rattle.calls.proofs.Last.{last-grows}
use Rattle.reshape.proofs.grow.grow_fast.Goals as goal

pub returns-then-new-block : goal.returns-then-new-block
returns-then-new-block c = λ p e. absurd (none-some p e)

pub returns-then-new-gt-MOST : goal.returns-then-new-gt-MOST
returns-then-new-gt-MOST c = λ p e. absurd (none-some p e)

pub returns-then-new-block-2 : goal.returns-then-new-block-2
returns-then-new-block-2 c = λ p e. absurd (none-some p e)

pub returns-then-not-is_last_block : goal.returns-then-not-is_last_block
returns-then-not-is_last_block c = λ p e. absurd (none-some p e)

pub in_place-requires : goal.in_place-requires
in_place-requires c =
    let own : Arena = lent_of c.args.a.now.lent in
    let last : (let s = c.args in LastBlock own s.block.offset s.block.layout.size s.block.layout.align) = c.is_last_block.ensures (left-true refl c.if-not-is_last_block.false) in
    let tested : (let s = c.args in GrowTested own s.block.layout.size s.block.layout.align s.new.size s.new.align) = record {
      request =
          record {
            sound = c.args.a.now.sound;
            size_bound = c.if-new-gt-MOST.false;
            align_allowed = ap allowed_align c.if-new-block-2.false ∙ last.align_allowed;
          };
      old_align_allowed = last.align_allowed;
      upwards = c.if-new-block.false;
    } in
    tested

pub returns : goal.returns
returns c =
    let own : Arena = lent_of c.args.a.now.lent in
    let last : (let s = c.args in LastBlock own s.block.offset s.block.layout.size s.block.layout.align) = c.is_last_block.ensures (left-true refl c.if-not-is_last_block.false) in
    let tested : (let s = c.args in GrowTested own s.block.layout.size s.block.layout.align s.new.size s.new.align) = record {
      request =
          record {
            sound = c.args.a.now.sound;
            size_bound = c.if-new-gt-MOST.false;
            align_allowed = ap allowed_align c.if-new-block-2.false ∙ last.align_allowed;
          };
      old_align_allowed = last.align_allowed;
      upwards = c.if-new-block.false;
    } in
    λ p e.
    let s = c.args in
    let a = own in
    let room = sym c.in_place.ensures ∙ e in
    placed-moved a
    (grows-in-place a.head (held_of a) s.block.offset s.block.layout.size s.block.layout.align s.new.size s.new.align
    (grown-moved a.head.minimum (held_of a) s.block.offset s.block.layout.size s.block.layout.align s.new.size s.new.align room))
    ∙ sym (last-grows a s.block.offset s.block.layout.size s.block.layout.align s.new.size s.new.align last tested)
