-- `calls::lend::lend` meets its contract: refused, the part is empty, and else it is the block's, which lies in the region. That it changes no byte,
-- which a contract can't say, is `Stores`. Assumes nothing.
mod Stores
use Prim.Native.Nat.{◌+◌, ◌-◌, ◌≤◌}
use native.Mathlib.Omega.{arith}
use mathlib.Core.Path.{◌≡◌, sym, ◌∙◌, ap}
use borrow.Author.Rules.{rules}
use lib.ListN.{length}
use Rattle.calls.specs.Bytes.{part, stands_at}
use Rattle.calls.specs.Write.{lend_of, lent_part, lent_from}
use Rattle.calls.proofs.Lending.{lent-inside}
use Rattle.calls.proofs.lend.lend.Goals as goal
use Rattle.arena.specs.Refusals.{Answer}
use Rattle.std.specs.Prelude.{Ok}

pub returns-in-Err : goal.returns-in-Err
unfolding lent_part lent_from
returns-in-Err c =
    let s = c.args in
    let answer = sym c.answer_of-answer.ensures ∙ c.in-Err.is in record {
      result_value = sym (ap (λ (answer : Answer). lent_part answer s.region.now s.offset s.size) answer);
      ref_ptr_value = sym (ap (λ (answer : Answer). stands_at s.region.ref_ptr (lent_from answer s.offset)) answer);
    }

pub overflow_add-end : goal.overflow_add-end
overflow_add-end c =
    let done : (let s = c.args in lend_of s.a (length s.region.now) s.offset s.size s.align ≡ Ok tt) = sym c.answer_of-answer.ensures ∙ c.in_default.is in
    let inside : (let s = c.args in s.offset + s.size ≤ length s.region.now) = let s = c.args in
    lent-inside s.a (length s.region.now) s.offset s.size s.align done in
    omega (arith, inside)

pub slice_bounds-region-end-2 : goal.slice_bounds-region-end-2
slice_bounds-region-end-2 c =
    let done : (let s = c.args in lend_of s.a (length s.region.now) s.offset s.size s.align ≡ Ok tt) = sym c.answer_of-answer.ensures ∙ c.in_default.is in
    let inside : (let s = c.args in s.offset + s.size ≤ length s.region.now) = let s = c.args in
    lent-inside s.a (length s.region.now) s.offset s.size s.align done in
    omega (arith, inside)

pub returns : goal.returns
unfolding lent_part lent_from
returns c =
    let done : (let s = c.args in lend_of s.a (length s.region.now) s.offset s.size s.align ≡ Ok tt) = sym c.answer_of-answer.ensures ∙ c.in_default.is in
    let its-bytes : (let s = c.args in lent_part (lend_of s.a (length s.region.now) s.offset s.size s.align) s.region.now s.offset s.size ≡ part s.region.now s.offset s.size) = let s = c.args in
    ap (λ (answer : Answer). lent_part answer s.region.now s.offset s.size) done in
    let its-place : (let s = c.args in stands_at s.region.ref_ptr (lent_from (lend_of s.a (length s.region.now) s.offset s.size s.align) s.offset) ≡ stands_at s.region.ref_ptr s.offset) = let s = c.args in
    ap (λ (answer : Answer). stands_at s.region.ref_ptr (lent_from answer s.offset)) done in
    let s = c.args in
    let long : s.offset + s.size - s.offset ≡ s.size = omega arith in
    record {
      result_value = ap (part s.region.now s.offset) long ∙ sym its-bytes;
      ref_ptr_value = sym its-place;
    }
