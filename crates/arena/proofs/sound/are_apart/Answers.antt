-- `arena::sound::are_apart` meets its contract. The loop's invariant: the places passed are apart. The measure is what is left of the count. Assumes nothing.
use Prim.Native.Nat.{ℕ, suc, ◌+◌, ◌<◌}
use native.Mathlib.Omega.{arith}
use mathlib.Core.Bool.{Bool, true, false}
use mathlib.Core.List.{List}
use mathlib.Core.Path.{◌≡◌, refl, sym}
use Rattle.rounding.specs.Every.{every}
use Rattle.rounding.proofs.Tests.{and_left, and_right, and_both, refute, true-false}
use Rattle.arena.specs.Record.{chunk_at, chunks_of}
use Rattle.arena.specs.Sound.{clear, apart}
use Rattle.rounding.proofs.Tests.{taken_false, left-true}
use Rattle.arena.proofs.View.{chunks-next, chunks-before}
use Rattle.arena.proofs.sound.are_apart.Goals as goal

-- a place that is not clear of those before it spoils them all, and one more that is keeps them apart
module _ (starts sizes pointers : List ℕ) where
  abbrev is_clear : ℕ → Bool
  is_clear i = every (clear (chunk_at starts sizes pointers i)) (chunks_of starts sizes pointers i)

  spoilt : {i k : ℕ} {answer : Bool} → i < k → answer ≡ is_clear i → answer ≡ false → apart (chunks_of starts sizes pointers k) ≡ false
  unfolding apart chunks_of
  spoilt {i} {k} l e f =
      let first : apart (chunks_of starts sizes pointers k) ≡ true → apart (chunks_of starts sizes pointers (suc i)) ≡ true =
      chunks-before starts sizes pointers (λ cs. apart cs ≡ true) (λ c cs. and_right (every (clear c) cs) (apart cs)) l in
      refute (apart (chunks_of starts sizes pointers k)) (λ t. true-false (and_left _ _ (first t)) (taken_false e f))

  kept : (k : ℕ) {answer : Bool} → answer ≡ is_clear k → answer ≡ true → apart (chunks_of starts sizes pointers k) ≡ true
      → apart (chunks_of starts sizes pointers (k + 1)) ≡ true
  unfolding apart
  kept k e f h = rw chunks-next (and_both (left-true e f) h)

pub loop-i-init : goal.loop-i-init
unfolding apart chunks_of
loop-i-init c = (omega arith, refl)

pub is_clear_of_earlier-requires : goal.is_clear_of_earlier-requires
is_clear_of_earlier-requires c = c.loop-i-test.true

pub returns-then-not-is_clear_of_earlier : goal.returns-then-not-is_clear_of_earlier
returns-then-not-is_clear_of_earlier c =
    sym
    (spoilt c.args.a.now.lent.starts.now c.args.a.now.lent.sizes.now c.args.a.now.lent.pointers.now c.loop-i-test.true c.is_clear_of_earlier.ensures c.if-not-is_clear_of_earlier.true)

pub loop-i-preserved : goal.loop-i-preserved
loop-i-preserved c =
    let loop = c.loop-i in
    (omega arith, kept c.args.a.now.lent.starts.now c.args.a.now.lent.sizes.now c.args.a.now.lent.pointers.now loop.i c.is_clear_of_earlier.ensures c.if-not-is_clear_of_earlier.false loop.invariant.1)

pub returns : goal.returns
returns c =
    let all : c.loop-i.i ≡ c.args.a.now.lent.head.count = omega arith in
    rw (← all) (sym c.loop-i.invariant.1)
