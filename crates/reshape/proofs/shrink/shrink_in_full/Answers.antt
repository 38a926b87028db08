-- `reshape::shrink::shrink_in_full` meets its contract: a refusal changes no byte, and a served shrink carries the bytes that are kept to a block that lies in the region.
-- Assumes nothing.
use Prim.Native.Nat.{ℕ}
use native.Mathlib.Omega.{arith}
use Rattle.std.specs.Prelude.{None}
use mathlib.Core.Path.{◌≡◌, sym, ◌∙◌, ap}
use lib.Dec.{ltb}
use lib.ListN.{length}
use Rattle.arena.specs.declared.Arena.{Arena}
use Rattle.arena.specs.Record.{held_of}
use Rattle.arena.specs.Inner.{lent_of}
use Rattle.arena.specs.Refusals.{refused_by, Allocation}
use Rattle.calls.specs.declared.Answered.{Answered}
use Rattle.calls.specs.Allocate.{given}
use Rattle.calls.specs.Bytes.{carried, after_given}
use Rattle.calls.specs.Shrink.{shrink_in, shrink_tests, shrink_of, shrink_bytes}
use Rattle.calls.specs.Inner.{answered_of, lent_tests, change_tests}
use Rattle.calls.proofs.Answering.{stopped-later, bytes-shown}
use Rattle.calls.proofs.Changing.{lent-own, shrink-tested, shrink-served}
use Rattle.calls.proofs.Passing.{shrink-passes}
use Rattle.calls.proofs.Placing.{placed-refused}
use Rattle.calls.proofs.Testing.{passed-before, tests-refuse, tests-pass}
use Rattle.reshape.proofs.shrink.shrink_in_full.Goals as goal

pub returns-in-Err : goal.returns-in-Err
unfolding shrink_bytes given after_given shrink_of
returns-in-Err c =
    let own : Arena = lent_of c.args.a.now.lent in
    let stopped : (let s = c.args in answered_of own c.refused.result ≡ shrink_of own (length s.region.now) s.block.offset s.block.layout.size s.block.layout.align s.new.size s.new.align) = let s = c.args in
    placed-refused own c.refused.ensures
    ∙ sym
    (stopped-later own (lent_tests own (length s.region.now)) (change_tests own s.block.offset s.block.layout.size s.block.layout.align s.new.size s.new.align (ltb s.block.layout.size s.new.size))
    (shrink_in own.head (held_of own) s.block.offset s.block.layout.size s.block.layout.align s.new.size s.new.align)
    (lent-own own c.args.a.now.sound c.requires) (tests-refuse _ (sym c.in-Err.is ∙ c.change_answer.ensures))) in
    let s = c.args in record {
      placed_by = stopped;
      region_after = bytes-shown (λ (to : ℕ). carried s.region.now s.block.offset to s.new.size) s.region.now stopped (ap (λ (o : Answered ℕ). o.answer) c.refused.ensures);
    }

pub shrunk_block-got-requires : goal.shrunk_block-got-requires
shrunk_block-got-requires c =
    let own : Arena = lent_of c.args.a.now.lent in
    let passed : (let s = c.args in refused_by (shrink_tests own (length s.region.now) s.block.offset s.block.layout.size s.block.layout.align s.new.size s.new.align) ≡ None) = let s = c.args in
    passed-before (lent_tests own (length s.region.now))
    (change_tests own s.block.offset s.block.layout.size s.block.layout.align s.new.size s.new.align (ltb s.block.layout.size s.new.size))
    (lent-own own c.args.a.now.sound c.requires)
    ∙ tests-pass _ (sym c.in_default.is ∙ c.change_answer.ensures) in
    let s = c.args in
    shrink-tested (shrink-passes own (length s.region.now) s.block.offset s.block.layout.size s.block.layout.align s.new.size s.new.align passed)

pub returns-in_default-answer : goal.returns-in_default-answer
unfolding shrink_bytes after_given shrink_of
returns-in_default-answer c =
    let own : Arena = lent_of c.args.a.now.lent in
    let passed : (let s = c.args in refused_by (shrink_tests own (length s.region.now) s.block.offset s.block.layout.size s.block.layout.align s.new.size s.new.align) ≡ None) = let s = c.args in
    passed-before (lent_tests own (length s.region.now))
    (change_tests own s.block.offset s.block.layout.size s.block.layout.align s.new.size s.new.align (ltb s.block.layout.size s.new.size))
    (lent-own own c.args.a.now.sound c.requires)
    ∙ tests-pass _ (sym c.in_default.is ∙ c.change_answer.ensures) in
    let answered : (let s = c.args in answered_of own c.shrunk_block-got.result ≡ shrink_of own (length s.region.now) s.block.offset s.block.layout.size s.block.layout.align s.new.size s.new.align) = let s = c.args in
    c.shrunk_block-got.ensures
    ∙ sym
    (ap (λ o. given o own (shrink_in own.head (held_of own) s.block.offset s.block.layout.size s.block.layout.align s.new.size s.new.align)) passed) in
    let s = c.args in
    record {
      placed_by = answered;
      region_after = bytes-shown (λ (to : ℕ). carried s.region.now s.block.offset to s.new.size) s.region.now answered c.in_default-answer.is;
    }

pub carry-requires : goal.carry-requires
unfolding shrink_of
carry-requires c =
    let own : Arena = lent_of c.args.a.now.lent in
    let passed : (let s = c.args in refused_by (shrink_tests own (length s.region.now) s.block.offset s.block.layout.size s.block.layout.align s.new.size s.new.align) ≡ None) = let s = c.args in
    passed-before (lent_tests own (length s.region.now))
    (change_tests own s.block.offset s.block.layout.size s.block.layout.align s.new.size s.new.align (ltb s.block.layout.size s.new.size))
    (lent-own own c.args.a.now.sound c.requires)
    ∙ tests-pass _ (sym c.in_default.is ∙ c.change_answer.ensures) in
    let answered : (let s = c.args in answered_of own c.shrunk_block-got.result ≡ shrink_of own (length s.region.now) s.block.offset s.block.layout.size s.block.layout.align s.new.size s.new.align) = let s = c.args in
    c.shrunk_block-got.ensures
    ∙ sym
    (ap (λ o. given o own (shrink_in own.head (held_of own) s.block.offset s.block.layout.size s.block.layout.align s.new.size s.new.align)) passed) in
    let s = c.args in
    let (is, down) =
    shrink-served own (length s.region.now) s.block.offset s.block.layout.size s.block.layout.align s.new.size s.new.align
    (sym (ap (λ (o : Allocation). o.answer) answered) ∙ c.in-Ok.is) in
    (omega (arith, is.source), omega (arith, is.room))

pub returns : goal.returns
unfolding shrink_bytes after_given shrink_of
returns c =
    let own : Arena = lent_of c.args.a.now.lent in
    let passed : (let s = c.args in refused_by (shrink_tests own (length s.region.now) s.block.offset s.block.layout.size s.block.layout.align s.new.size s.new.align) ≡ None) = let s = c.args in
    passed-before (lent_tests own (length s.region.now))
    (change_tests own s.block.offset s.block.layout.size s.block.layout.align s.new.size s.new.align (ltb s.block.layout.size s.new.size))
    (lent-own own c.args.a.now.sound c.requires)
    ∙ tests-pass _ (sym c.in_default.is ∙ c.change_answer.ensures) in
    let answered : (let s = c.args in answered_of own c.shrunk_block-got.result ≡ shrink_of own (length s.region.now) s.block.offset s.block.layout.size s.block.layout.align s.new.size s.new.align) = let s = c.args in
    c.shrunk_block-got.ensures
    ∙ sym
    (ap (λ o. given o own (shrink_in own.head (held_of own) s.block.offset s.block.layout.size s.block.layout.align s.new.size s.new.align)) passed) in
    let s = c.args in record {
      placed_by = answered;
      region_after = c.carry.ensures
          ∙ bytes-shown (λ (to : ℕ). carried s.region.now s.block.offset to s.new.size) s.region.now answered c.in-Ok.is;
    }
