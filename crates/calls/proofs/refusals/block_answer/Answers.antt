-- `calls::refusals::block_answer` meets its contract: each way out is the first test that applies, or none. Assumes nothing.
use mathlib.Core.Bool.{true}
use mathlib.Core.List.{[], ◌∷◌}
use mathlib.Core.Path.{◌≡◌, sym, ◌∙◌, ap}
use borrow.Author.Tests.{lt-ltb, le-ltb}
use Rattle.rounding.proofs.Powers.{power-one-bit}
use Rattle.rounding.proofs.Tests.{taken_false, left-true, true-not, false-not}
use Rattle.arena.specs.Numbers.{most}
use Rattle.arena.specs.Record.{held_of}
use Rattle.arena.specs.Inner.{lent_of}
use Rattle.arena.specs.Sound.{allowed_align}
use Rattle.arena.proofs.Refusing.{refused-now, refused-later, none-applies}
use Rattle.arena.proofs.Soundness.{align-open}
use Rattle.calls.specs.Tests.{size_test, align_test, block_test}
use Rattle.calls.specs.Write.{lend_answer}
use Rattle.calls.specs.Inner.{block_tests}
use Rattle.arena.proofs.Soundness.{ready-shut, lent-ready}
use Rattle.calls.proofs.refusals.block_answer.Goals as goal

pub returns-then-block-gt-MOST : goal.returns-then-block-gt-MOST
unfolding lend_answer
returns-then-block-gt-MOST c =
    let s = c.args in
    sym (ap lend_answer (refused-now (size_test s.block.layout.size) (align_test s.block.layout.align ∷ (block_test (held_of (lent_of s.a.now.lent)) s.block.offset s.block.layout.size s.block.layout.align ∷ [])) (lt-ltb most s.block.layout.size c.if-block-gt-MOST.true)))

pub returns-then-not-is_allowed_align : goal.returns-then-not-is_allowed_align
unfolding lend_answer
returns-then-not-is_allowed_align c =
    let s = c.args in
    let rest = block_test (held_of (lent_of s.a.now.lent)) s.block.offset s.block.layout.size s.block.layout.align ∷ [] in
    sym
    (ap lend_answer
    (refused-later (size_test s.block.layout.size) (align_test s.block.layout.align ∷ rest) (le-ltb most s.block.layout.size c.if-block-gt-MOST.false)
    ∙ refused-now (align_test s.block.layout.align) rest (false-not (taken_false c.is_allowed_align.ensures c.if-not-is_allowed_align.true))))

pub invariant_of-is_acceptable : goal.invariant_of-is_acceptable
invariant_of-is_acceptable c = record { ready = ready-shut (lent-ready c.args.a.now.lent c.args.a.now.sound) }

pub is_acceptable-requires : goal.is_acceptable-requires
is_acceptable-requires c =
    let allowed : allowed_align c.args.block.layout.align ≡ true = left-true c.is_allowed_align.ensures c.if-not-is_allowed_align.false in
    power-one-bit (align-open _ allowed).power

pub returns-then-not-is_acceptable : goal.returns-then-not-is_acceptable
unfolding lend_answer
returns-then-not-is_acceptable c =
    let allowed : allowed_align c.args.block.layout.align ≡ true = left-true c.is_allowed_align.ensures c.if-not-is_allowed_align.false in
    let s = c.args in
    let block = block_test (held_of (lent_of s.a.now.lent)) s.block.offset s.block.layout.size s.block.layout.align in
    sym
    (ap lend_answer
    (refused-later (size_test s.block.layout.size) (align_test s.block.layout.align ∷ (block ∷ [])) (le-ltb most s.block.layout.size c.if-block-gt-MOST.false)
    ∙ refused-later (align_test s.block.layout.align) (block ∷ []) (true-not allowed)
    ∙ refused-now block [] (false-not (taken_false c.is_acceptable.ensures c.if-not-is_acceptable.true))))

pub returns : goal.returns
unfolding lend_answer
returns c =
    let allowed : allowed_align c.args.block.layout.align ≡ true = left-true c.is_allowed_align.ensures c.if-not-is_allowed_align.false in
    let s = c.args in
    let block = true-not (left-true c.is_acceptable.ensures c.if-not-is_acceptable.false) in
    sym
    (ap lend_answer
    (none-applies (block_tests (lent_of s.a.now.lent) s.block.offset s.block.layout.size s.block.layout.align) (le-ltb most s.block.layout.size c.if-block-gt-MOST.false, (true-not allowed, (block, tt)))))
