-- `calls::refusals::change_answer` meets its contract: each way out is the first test that applies, or none. Two sizes and two alignments are tested one after
-- the other. Assumes nothing.
use Prim.Native.Nat.{ℕ, ◌≤◌}
use mathlib.Core.Bool.{Bool, true, false, not, ◌||◌}
use mathlib.Core.List.{List, [], ◌∷◌}
use Rattle.std.specs.Prelude.{None, Some}
use mathlib.Core.Path.{◌≡◌, sym, ◌∙◌, ap}
use lib.Dec.{ltb}
use borrow.Author.Tests.{lt-ltb, le-ltb}
use Rattle.rounding.proofs.Powers.{power-one-bit}
use Rattle.rounding.proofs.Tests.{taken_false, left-true, true-not, false-not, or_left, or_right, or-neither}
use Rattle.arena.specs.declared.Arena.{Arena}
use Rattle.arena.specs.declared.Refusal.TheVariants.{Size, Align, Block, Direction}
use Rattle.arena.specs.Numbers.{most}
use Rattle.arena.specs.Record.{held_of}
use Rattle.arena.specs.Inner.{lent_of}
use Rattle.arena.specs.Refusals.{Test, test, refused_by}
use Rattle.arena.specs.Sound.{allowed_align}
use Rattle.arena.proofs.Refusing.{refused-now, refused-later, none-applies}
use Rattle.arena.proofs.Soundness.{align-open}
use Rattle.calls.specs.Tests.{acceptable, sizes_test, aligns_test, block_test}
use Rattle.calls.specs.Write.{lend_answer}
use Rattle.calls.specs.Inner.{change_tests}
use Rattle.arena.proofs.Soundness.{ready-shut, lent-ready}
use Rattle.calls.proofs.refusals.change_answer.Goals as goal

module _ (a : Arena) (offset old old_align new new_align : ℕ) (backwards : Bool) where
  abbrev from_block : List Test
  from_block = block_test (held_of a) offset old old_align ∷ (test Direction backwards ∷ [])

  abbrev from_align : List Test
  from_align = aligns_test old_align new_align ∷ from_block

  by_size : (ltb most old || ltb most new) ≡ true → refused_by (change_tests a offset old old_align new new_align backwards) ≡ Some Size
  by_size e = refused-now (sizes_test old new) from_align e

  past-size : old ≤ most → new ≤ most → refused_by (change_tests a offset old old_align new new_align backwards) ≡ refused_by from_align
  past-size l m = refused-later (sizes_test old new) from_align (or-neither (le-ltb most old l) (le-ltb most new m))

  by-align : old ≤ most → new ≤ most → (not (allowed_align old_align) || not (allowed_align new_align)) ≡ true →
      refused_by (change_tests a offset old old_align new new_align backwards) ≡ Some Align
  by-align l m e = past-size l m ∙ refused-now (aligns_test old_align new_align) from_block e

  past-align : old ≤ most → new ≤ most → allowed_align old_align ≡ true → allowed_align new_align ≡ true →
      refused_by (change_tests a offset old old_align new new_align backwards) ≡ refused_by from_block
  past-align l m p q = past-size l m ∙ refused-later (aligns_test old_align new_align) from_block (or-neither (true-not p) (true-not q))

  by-block : acceptable (held_of a) offset old old_align ≡ false → refused_by from_block ≡ Some Block
  by-block e = refused-now (block_test (held_of a) offset old old_align) (test Direction backwards ∷ []) (false-not e)

  by-direction : acceptable (held_of a) offset old old_align ≡ true → backwards ≡ true → refused_by from_block ≡ Some Direction
  by-direction e b =
      refused-later (block_test (held_of a) offset old old_align) (test Direction backwards ∷ []) (true-not e) ∙ refused-now (test Direction backwards) [] b

  by-none : acceptable (held_of a) offset old old_align ≡ true → backwards ≡ false → refused_by from_block ≡ None
  by-none e b = none-applies from_block (true-not e, (b, tt))

pub returns-then-block-gt-MOST : goal.returns-then-block-gt-MOST
unfolding lend_answer
returns-then-block-gt-MOST c =
    let s = c.args in
    sym
    (ap lend_answer
    (by_size (lent_of s.a.now.lent) s.block.offset s.block.layout.size s.block.layout.align s.new.size s.new.align s.backwards (or_left (ltb most s.new.size) (lt-ltb most s.block.layout.size c.if-block-gt-MOST.true))))

pub returns-then-new-gt-MOST : goal.returns-then-new-gt-MOST
unfolding lend_answer
returns-then-new-gt-MOST c =
    let s = c.args in
    sym
    (ap lend_answer
    (by_size (lent_of s.a.now.lent) s.block.offset s.block.layout.size s.block.layout.align s.new.size s.new.align s.backwards (or_right (ltb most s.block.layout.size) (lt-ltb most s.new.size c.if-new-gt-MOST.true))))

pub returns-then-not-is_allowed_align : goal.returns-then-not-is_allowed_align
unfolding lend_answer
returns-then-not-is_allowed_align c =
    let s = c.args in
    let off = false-not (taken_false c.is_allowed_align.ensures c.if-not-is_allowed_align.true) in
    sym
    (ap lend_answer
    (by-align (lent_of s.a.now.lent) s.block.offset s.block.layout.size s.block.layout.align s.new.size s.new.align s.backwards c.if-block-gt-MOST.false c.if-new-gt-MOST.false
    (or_left (not (allowed_align s.new.align)) off)))

pub returns-then-not-is_allowed_align-2 : goal.returns-then-not-is_allowed_align-2
unfolding lend_answer
returns-then-not-is_allowed_align-2 c =
    let s = c.args in
    let off = false-not (taken_false c.is_allowed_align-2.ensures c.if-not-is_allowed_align-2.true) in
    sym
    (ap lend_answer
    (by-align (lent_of s.a.now.lent) s.block.offset s.block.layout.size s.block.layout.align s.new.size s.new.align s.backwards c.if-block-gt-MOST.false c.if-new-gt-MOST.false
    (or_right (not (allowed_align s.block.layout.align)) off)))

pub invariant_of-is_acceptable : goal.invariant_of-is_acceptable
invariant_of-is_acceptable c = record { ready = ready-shut (lent-ready c.args.a.now.lent c.args.a.now.sound) }

pub is_acceptable-requires : goal.is_acceptable-requires
is_acceptable-requires c =
    let old-allowed : allowed_align c.args.block.layout.align ≡ true = left-true c.is_allowed_align.ensures c.if-not-is_allowed_align.false in
    power-one-bit (align-open _ old-allowed).power

pub returns-then-not-is_acceptable : goal.returns-then-not-is_acceptable
unfolding lend_answer
returns-then-not-is_acceptable c =
    let old-allowed : allowed_align c.args.block.layout.align ≡ true = left-true c.is_allowed_align.ensures c.if-not-is_allowed_align.false in
    let past : (let s = c.args in refused_by (change_tests (lent_of s.a.now.lent) s.block.offset s.block.layout.size s.block.layout.align s.new.size s.new.align s.backwards) ≡ refused_by (block_test (held_of (lent_of s.a.now.lent)) s.block.offset s.block.layout.size s.block.layout.align ∷ (test Direction s.backwards ∷ []))) = let s = c.args in
    past-align (lent_of s.a.now.lent) s.block.offset s.block.layout.size s.block.layout.align s.new.size s.new.align s.backwards c.if-block-gt-MOST.false c.if-new-gt-MOST.false
    old-allowed (left-true c.is_allowed_align-2.ensures c.if-not-is_allowed_align-2.false) in
    let s = c.args in
    sym
    (ap lend_answer
    (past
    ∙ by-block (lent_of s.a.now.lent) s.block.offset s.block.layout.size s.block.layout.align s.new.size s.new.align s.backwards (taken_false c.is_acceptable.ensures c.if-not-is_acceptable.true)))

pub returns-then-backwards : goal.returns-then-backwards
unfolding lend_answer
returns-then-backwards c =
    let old-allowed : allowed_align c.args.block.layout.align ≡ true = left-true c.is_allowed_align.ensures c.if-not-is_allowed_align.false in
    let past : (let s = c.args in refused_by (change_tests (lent_of s.a.now.lent) s.block.offset s.block.layout.size s.block.layout.align s.new.size s.new.align s.backwards) ≡ refused_by (block_test (held_of (lent_of s.a.now.lent)) s.block.offset s.block.layout.size s.block.layout.align ∷ (test Direction s.backwards ∷ []))) = let s = c.args in
    past-align (lent_of s.a.now.lent) s.block.offset s.block.layout.size s.block.layout.align s.new.size s.new.align s.backwards c.if-block-gt-MOST.false c.if-new-gt-MOST.false
    old-allowed (left-true c.is_allowed_align-2.ensures c.if-not-is_allowed_align-2.false) in
    let s = c.args in
    sym
    (ap lend_answer
    (past
    ∙ by-direction (lent_of s.a.now.lent) s.block.offset s.block.layout.size s.block.layout.align s.new.size s.new.align s.backwards
    (left-true c.is_acceptable.ensures c.if-not-is_acceptable.false) c.if-backwards.true))

pub returns : goal.returns
unfolding lend_answer
returns c =
    let old-allowed : allowed_align c.args.block.layout.align ≡ true = left-true c.is_allowed_align.ensures c.if-not-is_allowed_align.false in
    let past : (let s = c.args in refused_by (change_tests (lent_of s.a.now.lent) s.block.offset s.block.layout.size s.block.layout.align s.new.size s.new.align s.backwards) ≡ refused_by (block_test (held_of (lent_of s.a.now.lent)) s.block.offset s.block.layout.size s.block.layout.align ∷ (test Direction s.backwards ∷ []))) = let s = c.args in
    past-align (lent_of s.a.now.lent) s.block.offset s.block.layout.size s.block.layout.align s.new.size s.new.align s.backwards c.if-block-gt-MOST.false c.if-new-gt-MOST.false
    old-allowed (left-true c.is_allowed_align-2.ensures c.if-not-is_allowed_align-2.false) in
    let s = c.args in
    sym
    (ap lend_answer
    (past
    ∙ by-none (lent_of s.a.now.lent) s.block.offset s.block.layout.size s.block.layout.align s.new.size s.new.align s.backwards
    (left-true c.is_acceptable.ensures c.if-not-is_acceptable.false) c.if-backwards.false))
