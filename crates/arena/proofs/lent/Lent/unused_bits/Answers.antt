-- `arena::lent::Lent::unused_bits` meets its contract. The loop's invariant: the bits are zero exactly where each place passed is zero in each column. The measure is
-- what is left of the table. Assumes nothing.
use Prim.Native.Nat.{ℕ, ◌+◌, ◌<◌}
use native.Mathlib.Omega.{arith}
use mathlib.Core.Bool.{true}
use mathlib.Core.List.{List}
use mathlib.Core.Path.{◌≡◌, refl}
use borrow.Author.Count.{below_more}
use borrow.Author.Tests.{eqb-true, eq-eqb}
use lib.Bits.{bit_or, or_add_and, and_le_l, and_le_r}
use lib.ListN.{length, get_or}
use Rattle.rounding.proofs.Tests.{same, and_left, and_right, and_both}
use Rattle.arena.specs.Numbers.{places}
use Rattle.arena.specs.Sound.{unused_zero, table_sound}
use Rattle.arena.proofs.Soundness.{unused-open, unused-shut, unused-at, unused-by}
use Rattle.arena.proofs.lent.Lent.unused_bits.Invariants.{Zeros, Gathered}
use Rattle.arena.proofs.lent.Lent.unused_bits.Goals as goal

zeros-unused : (count : ℕ) (column : List ℕ) → length column ≡ places → Zeros count places column → unused_zero count column ≡ true
zeros-unused count column long h = unused-shut count column (unused-by count column long h)

unused-zeros : (count end : ℕ) (column : List ℕ) → unused_zero count column ≡ true → Zeros count end column
unused-zeros count end column t k l = unused-at count column (unused-open count column t) k

-- a number gathers bits, and is zero where all that it gathered is
or-zero : (a b : ℕ) → bit_or a b ≡ 0 → (a ≡ 0) × (b ≡ 0)
or-zero a b e = omega (arith, or_add_and a b, and_le_l a b, and_le_r a b)

zero_or : (a b : ℕ) → a ≡ 0 → b ≡ 0 → bit_or a b ≡ 0
zero_or a b p q = omega (arith, or_add_and a b)

pub loop-i-init : goal.loop-i-init
loop-i-init c =
    record {
      from = omega arith;
      within = omega arith;
      all-zero = λ e. (λ k l g. omega arith, (λ k l g. omega arith, λ k l g. omega arith));
      zero-all = λ s z p. refl;
    }

gathers : (count : ℕ) (starts sizes pointers : List ℕ) (bits i : ℕ) → i < places → Gathered count starts sizes pointers bits i
    → Gathered count starts sizes pointers (bit_or (bit_or (bit_or bits (get_or starts i 0)) (get_or sizes i 0)) (get_or pointers i 0)) (i + 1)
gathers count starts sizes pointers bits i l inv =
    let s = get_or starts i 0 in
    let z = get_or sizes i 0 in
    let p = get_or pointers i 0 in
    record {
      from = omega arith;
      within = omega arith;
      all-zero =
          λ e.
          let (sized, p-zero) = or-zero (bit_or (bit_or bits s) z) p e in
          let (started, z-zero) = or-zero (bit_or bits s) z sized in
          let (before, s-zero) = or-zero bits s started in
          let (ss, (zs, ps)) = inv.all-zero before in
          (below_more _ i ss (λ g. s-zero), (below_more _ i zs (λ g. z-zero), below_more _ i ps (λ g. p-zero)));
      zero-all =
          λ ss zs ps.
          let now : i < i + 1 = omega arith in
          let before = inv.zero-all (λ k g. ss k (omega arith)) (λ k g. zs k (omega arith)) (λ k g. ps k (omega arith)) in
          let started = zero_or bits s before (ss i now inv.from) in
          let sized = zero_or (bit_or bits s) z started (zs i now inv.from) in
          zero_or (bit_or (bit_or bits s) z) p sized (ps i now inv.from);
    }

pub loop-i-preserved : goal.loop-i-preserved
loop-i-preserved c =
    let loop = c.loop-i in
    gathers c.args.self.now.head.count c.args.self.now.starts.now c.args.self.now.sizes.now c.args.self.now.pointers.now loop.bits loop.i c.loop-i-test.true loop.invariant

pub returns : goal.returns
unfolding table_sound
returns c =
    let n = c.args.self.now.head.count in
    let loop = c.loop-i in
    let all : loop.i ≡ places = omega arith in
    same
    (λ t.
    let (s, (z, p)) = loop.invariant.all-zero (eqb-true loop.bits 0 t) in
    and_both (zeros-unused n c.args.self.now.starts.now c.starts-1.given (rw all at s))
    (and_both (zeros-unused n c.args.self.now.sizes.now c.sizes-1.given (rw all at z))
    (zeros-unused n c.args.self.now.pointers.now c.pointers-1.given (rw all at p))))
    (λ t.
    let rest = and_right (unused_zero n c.args.self.now.starts.now) _ t in
    eq-eqb loop.bits 0
    (loop.invariant.zero-all (unused-zeros n loop.i c.args.self.now.starts.now (and_left _ _ t)) (unused-zeros n loop.i c.args.self.now.sizes.now (and_left _ _ rest))
    (unused-zeros n loop.i c.args.self.now.pointers.now (and_right (unused_zero n c.args.self.now.sizes.now) _ rest))))
