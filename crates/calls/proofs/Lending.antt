-- What lending answers, by the tests of the lent region and of the block; a block that is lent lies in the region. Assumes nothing.
use Prim.Native.Nat.{ℕ, ◌+◌, ◌≤◌}
use native.Mathlib.Omega.{arith}
use Rattle.std.specs.Prelude.{None, Some, Err, Ok}
use mathlib.Core.Path.{◌≡◌, sym, ap}
use Rattle.arena.specs.declared.Arena.{Arena}
use Rattle.arena.specs.declared.Refusal.{Refusal}
use Rattle.arena.specs.Refusals.{refused_by}
use Rattle.calls.specs.Write.{lend_tests, lend_answer, lend_of}
use Rattle.calls.specs.Inner.{lent_tests, block_tests, first_of}
use Rattle.calls.proofs.Testing.{refused-before, passed-before, passes-both, tests-pass, lent-passes, block-passes, block_inside}

module _ (a : Arena) (lent offset size align : ℕ) where
  pub lend-refused : {r : Refusal} → refused_by (lent_tests a lent) ≡ Some r → lend_of a lent offset size align ≡ Err r
  unfolding lend_of lend_answer
  lend-refused e = ap lend_answer (refused-before (lent_tests a lent) (block_tests a offset size align) e)

  pub lend-rest : refused_by (lent_tests a lent) ≡ None → lend_of a lent offset size align ≡ first_of (block_tests a offset size align)
  unfolding lend_of
  lend-rest e = ap lend_answer (passed-before (lent_tests a lent) (block_tests a offset size align) e)

  pub lent-inside : lend_of a lent offset size align ≡ (Ok tt) → offset + size ≤ lent
  unfolding lend_of
  lent-inside e =
      let parts = passes-both (lent_tests a lent) (block_tests a offset size align) (tests-pass (refused_by (lend_tests a lent offset size align)) (sym e)) in
      let region = lent-passes a lent parts.0 in
      let named = block-passes a offset size align parts.1 in
      omega (arith, region.whole, block_inside a offset size align region.sound named.block)
