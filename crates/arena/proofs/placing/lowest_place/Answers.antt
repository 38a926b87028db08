-- `arena::placing::lowest_place` meets its contract. The invariant: no multiple below the offset fits. So an offset that stays where it is, is
-- the lowest that fits, and past the last one in the region none is left. Assumes nothing.
use Prim.Native.Nat.{ℕ, ◌+◌, ◌≤◌, ◌<◌, ◌∣◌}
use native.Mathlib.Nat.{dvd-zero, not-suc-le-zero}
use native.Mathlib.Decide.{dec_lt}
use native.Mathlib.Omega.{arith}
use mathlib.Core.Bool.{true}
use mathlib.Core.List.{List}
use mathlib.Core.Path.{◌≡◌, sym}
use lib.Dec.{leb}
use borrow.Author.Tests.{le-leb}
use Rattle.rounding.specs.Every.{every}
use Rattle.rounding.proofs.Tests.{true-false, and_right, and_both}
use Rattle.arena.specs.declared.Chunk.{Chunk}
use Rattle.std.specs.Prelude.{None, Some}
use Rattle.arena.specs.Numbers.{footer}
use Rattle.arena.specs.Placing.{misses, fits, lowest_place}
use Rattle.arena.specs.Inner.{Passed}
use Rattle.arena.proofs.Lowest.{Fits, fits-open, fits-shut, lowest-is, none-lowest}
use Rattle.arena.proofs.placing.lowest_place.Invariants.{NoneBelow}
use Rattle.arena.proofs.placing.lowest_place.Goals as goal

module _ (region : ℕ) (cs : List Chunk) (n : ℕ) {align at : ℕ} (below : NoneBelow region cs n align at) where
  passed : {next : ℕ} → Passed cs align (n + footer) at next → NoneBelow region cs n align next
  unfolding fits
  passed p x d l f =
      elim (dec_lt x at) [
        | yes m ↦ below x d m f
        | no g ↦
            true-false
            (and_right (leb (x + (n + footer)) region) (every (misses x (n + footer)) cs) (fits-shut f))
            (p.between x d (omega arith) l)
      ]

  found : 0 < align → align ∣ at → at + (n + footer) ≤ region → every (misses at (n + footer)) cs ≡ true →
      Some at ≡ lowest_place region cs align n
  unfolding fits
  found positive d l clear = sym (lowest-is region cs n positive d here least)
    where
      here : Fits region cs n at
      here = fits-open region cs n at (and_both (le-leb (at + (n + footer)) region l) clear)

      least : (x : ℕ) → align ∣ x → Fits region cs n x → at ≤ x
      least x e f =
          let not_lower : ¬ (x < at) = λ m. below x e m f in
          omega arith

  nowhere : 0 < align → region < at + (n + footer) → None ≡ lowest_place region cs align n
  nowhere positive l = sym (none-lowest region cs n positive (λ x d f. below x d (omega (arith, f.inside)) f))

pub returns-then-region-length : goal.returns-then-region-length
returns-then-region-length c = nowhere _ _ _ {at = 0} (λ x d l f. not-suc-le-zero l) c.requires.0 (omega arith)

pub loop-at-init : goal.loop-at-init
loop-at-init c = (dvd-zero c.args.align, λ x d l f. not-suc-le-zero l)

pub past_chunks-next-requires : goal.past_chunks-next-requires
past_chunks-next-requires c = (c.requires.0, c.requires.1, c.loop-at.invariant.0, omega arith, omega arith)

pub returns-then-next-at : goal.returns-then-next-at
returns-then-next-at c =
    let clear = c.past_chunks-next.ensures.stays c.if-next-at.true in
    found _ _ _ c.loop-at.invariant.1 c.requires.0 c.loop-at.invariant.0 (omega arith) clear

pub loop-at-preserved : goal.loop-at-preserved
loop-at-preserved c =
    let next = c.past_chunks-next.ensures in
    (next.multiple, passed _ _ _ c.loop-at.invariant.1 next)

pub returns : goal.returns
returns c = nowhere _ _ _ c.loop-at.invariant.1 c.requires.0 (omega arith)
