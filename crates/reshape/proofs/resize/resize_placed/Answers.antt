-- `reshape::resize::resize_placed` meets its contract: of old size 0 it is allocate, and else a refusal changes no byte and a served resize carries what both sizes
-- have. Assumes nothing.
use Prim.Native.Nat.{ℕ, ◌<◌, min}
use native.Mathlib.Omega.{arith}
use native.Mathlib.Nat.{min-le_left, min-le_right}
use Rattle.std.specs.Prelude.{None}
use mathlib.Core.Path.{◌≡◌, sym, ◌∙◌, ap}
use lib.ListN.{length}
use Rattle.arena.specs.declared.Arena.{Arena}
use Rattle.arena.specs.Record.{held_of}
use Rattle.arena.specs.Inner.{lent_of}
use Rattle.arena.specs.Refusals.{refused_by, Allocation}
use Rattle.calls.specs.declared.Answered.{Answered}
use Rattle.calls.specs.Allocate.{given, allocate_of}
use Rattle.calls.specs.Bytes.{carried, after_given}
use Rattle.calls.specs.Resize.{resize_in, resize_tests, resize_of, resize_bytes}
use Rattle.calls.specs.Inner.{answered_of, lent_tests}
use Rattle.calls.proofs.Answering.{stopped-later, bytes-shown}
use Rattle.calls.proofs.Changing.{lent-own, request-tested}
use Rattle.calls.proofs.Passing.{resize-passes, resize-accepted}
use Rattle.calls.proofs.Resizing.{resize_rest, as-change, resize-nothing, nothing-carried, resize-served}
use Rattle.calls.proofs.Placing.{placed-refused}
use Rattle.calls.proofs.Testing.{passed-before, tests-refuse, tests-pass, block_inside}
use Rattle.reshape.proofs.resize.resize_placed.Goals as goal

pub returns-then-block-eq0 : goal.returns-then-block-eq0
unfolding resize_bytes
returns-then-block-eq0 c =
    let own : Arena = lent_of c.args.a.now.lent in
    let s = c.args in
    let lent = length s.region.now in
    let zero = c.if-block-eq0.true in record {
      placed_by = c.allocate_in_full.ensures
          ∙ sym (resize-nothing own s.block.offset s.block.layout.size s.block.layout.align s.new lent zero ∙ ap (λ (n : ℕ). allocate_of own n s.new s.block.layout.align) c.requires);
      region_after = sym (nothing-carried own s.block.offset s.block.layout.size s.block.layout.align s.new s.region.now (resize_of own lent s.block.offset s.block.layout.size s.block.layout.align s.new).answer zero);
    }

pub returns-in-Err : goal.returns-in-Err
unfolding resize_bytes given after_given resize_of
returns-in-Err c =
    let own : Arena = lent_of c.args.a.now.lent in
    let stopped : (let s = c.args in answered_of own c.refused.result ≡ resize_of own (length s.region.now) s.block.offset s.block.layout.size s.block.layout.align s.new) = let s = c.args in
    placed-refused own c.refused.ensures
    ∙ sym
    (stopped-later own (lent_tests own (length s.region.now)) (resize_rest own s.block.offset s.block.layout.size s.block.layout.align s.new)
    (resize_in own.head (held_of own) s.block.offset s.block.layout.size s.block.layout.align s.new) (lent-own own c.args.a.now.sound c.requires)
    (as-change own s.block.offset s.block.layout.size s.block.layout.align s.new c.if-block-eq0.false
    ∙ tests-refuse _ (sym c.in-Err.is ∙ c.change_answer.ensures))) in
    let s = c.args in record {
      placed_by = stopped;
      region_after = bytes-shown (λ (to : ℕ). carried s.region.now s.block.offset to (min s.block.layout.size s.new)) s.region.now stopped
          (ap (λ (o : Answered ℕ). o.answer) c.refused.ensures);
    }

pub resized_block-got-requires : goal.resized_block-got-requires
resized_block-got-requires c =
    let own : Arena = lent_of c.args.a.now.lent in
    let passed : (let s = c.args in refused_by (resize_tests own (length s.region.now) s.block.offset s.block.layout.size s.block.layout.align s.new) ≡ None) = let s = c.args in
    passed-before (lent_tests own (length s.region.now)) (resize_rest own s.block.offset s.block.layout.size s.block.layout.align s.new) (lent-own own c.args.a.now.sound c.requires)
    ∙ as-change own s.block.offset s.block.layout.size s.block.layout.align s.new c.if-block-eq0.false
    ∙ tests-pass _ (sym c.in_default.is ∙ c.change_answer.ensures) in
    let s = c.args in
    let some : 0 < s.block.layout.size = omega (arith, c.if-block-eq0.false) in
    let accepted = resize-accepted own (length s.region.now) s.block.offset s.block.layout.size s.block.layout.align s.new passed some in record {
      tested = request-tested (resize-passes own (length s.region.now) s.block.offset s.block.layout.size s.block.layout.align s.new passed);
      nonzero = (some, block_inside own s.block.offset s.block.layout.size s.block.layout.align c.args.a.now.sound accepted);
    }

pub returns-in_default-answer : goal.returns-in_default-answer
unfolding resize_bytes after_given resize_of
returns-in_default-answer c =
    let own : Arena = lent_of c.args.a.now.lent in
    let passed : (let s = c.args in refused_by (resize_tests own (length s.region.now) s.block.offset s.block.layout.size s.block.layout.align s.new) ≡ None) = let s = c.args in
    passed-before (lent_tests own (length s.region.now)) (resize_rest own s.block.offset s.block.layout.size s.block.layout.align s.new) (lent-own own c.args.a.now.sound c.requires)
    ∙ as-change own s.block.offset s.block.layout.size s.block.layout.align s.new c.if-block-eq0.false
    ∙ tests-pass _ (sym c.in_default.is ∙ c.change_answer.ensures) in
    let answered : (let s = c.args in answered_of own c.resized_block-got.result ≡ resize_of own (length s.region.now) s.block.offset s.block.layout.size s.block.layout.align s.new) = let s = c.args in
    c.resized_block-got.ensures
    ∙ sym (ap (λ o. given o own (resize_in own.head (held_of own) s.block.offset s.block.layout.size s.block.layout.align s.new)) passed) in
    let s = c.args in record {
      placed_by = answered;
      region_after = bytes-shown (λ (to : ℕ). carried s.region.now s.block.offset to (min s.block.layout.size s.new)) s.region.now answered c.in_default-answer.is;
    }

pub carry-requires : goal.carry-requires
unfolding resize_of
carry-requires c =
    let own : Arena = lent_of c.args.a.now.lent in
    let passed : (let s = c.args in refused_by (resize_tests own (length s.region.now) s.block.offset s.block.layout.size s.block.layout.align s.new) ≡ None) = let s = c.args in
    passed-before (lent_tests own (length s.region.now)) (resize_rest own s.block.offset s.block.layout.size s.block.layout.align s.new) (lent-own own c.args.a.now.sound c.requires)
    ∙ as-change own s.block.offset s.block.layout.size s.block.layout.align s.new c.if-block-eq0.false
    ∙ tests-pass _ (sym c.in_default.is ∙ c.change_answer.ensures) in
    let answered : (let s = c.args in answered_of own c.resized_block-got.result ≡ resize_of own (length s.region.now) s.block.offset s.block.layout.size s.block.layout.align s.new) = let s = c.args in
    c.resized_block-got.ensures
    ∙ sym (ap (λ o. given o own (resize_in own.head (held_of own) s.block.offset s.block.layout.size s.block.layout.align s.new)) passed) in
    let s = c.args in
    let is =
    resize-served own s.block.offset s.block.layout.size s.block.layout.align s.new (length s.region.now) (omega (arith, c.if-block-eq0.false))
    (sym (ap (λ (o : Allocation). o.answer) answered) ∙ c.in-Ok.is) in (
      omega (arith, is.source, c.min.ensures, min-le_left s.block.layout.size s.new),
      omega (arith, is.room, c.min.ensures, min-le_right s.block.layout.size s.new),
    )

pub returns : goal.returns
unfolding resize_bytes after_given resize_of
returns c =
    let own : Arena = lent_of c.args.a.now.lent in
    let passed : (let s = c.args in refused_by (resize_tests own (length s.region.now) s.block.offset s.block.layout.size s.block.layout.align s.new) ≡ None) = let s = c.args in
    passed-before (lent_tests own (length s.region.now)) (resize_rest own s.block.offset s.block.layout.size s.block.layout.align s.new) (lent-own own c.args.a.now.sound c.requires)
    ∙ as-change own s.block.offset s.block.layout.size s.block.layout.align s.new c.if-block-eq0.false
    ∙ tests-pass _ (sym c.in_default.is ∙ c.change_answer.ensures) in
    let answered : (let s = c.args in answered_of own c.resized_block-got.result ≡ resize_of own (length s.region.now) s.block.offset s.block.layout.size s.block.layout.align s.new) = let s = c.args in
    c.resized_block-got.ensures
    ∙ sym (ap (λ o. given o own (resize_in own.head (held_of own) s.block.offset s.block.layout.size s.block.layout.align s.new)) passed) in
    let s = c.args in
    record {
      placed_by = answered;
      region_after = c.carry.ensures
          ∙ ap (carried s.region.now s.block.offset c.in-Ok.to) c.min.ensures
          ∙ bytes-shown (λ (to : ℕ). carried s.region.now s.block.offset to (min s.block.layout.size s.new)) s.region.now answered c.in-Ok.is;
    }
