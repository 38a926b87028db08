-- `arena::lent::Lent::unused_bits` meets its contract. The loop's invariant: the bits are zero exactly where each place passed is zero in each column. The measure is
-- what is left of the table. Assumes nothing.
use Prim.Native.Nat.{ℕ, ◌-◌, ◌≤◌, ◌<◌}
use mathlib.Core.List.{List}
use mathlib.Core.Path.{◌≡◌}
use lib.ListN.{get_or}
use Rattle.arena.specs.Numbers.{places}
use Rattle.arena.proofs.lent.Lent.unused_bits.Given as goal

-- each place of a column from the count up to an end is zero
abbrev pub Zeros : ℕ → ℕ → List ℕ → Type 0
Zeros count end column = (k : ℕ) → k < end → count ≤ k → get_or column k 0 ≡ 0

pub record Gathered (count : ℕ) (starts sizes pointers : List ℕ) (bits i : ℕ) : Type 0 where
  pub from : count ≤ i
  pub within : i ≤ places
  pub all-zero : bits ≡ 0 → Zeros count i starts × (Zeros count i sizes × Zeros count i pointers)
  pub zero-all : Zeros count i starts → Zeros count i sizes → Zeros count i pointers → bits ≡ 0

abbrev pub invariant-loop-i : goal.invariant-loop-i
invariant-loop-i l = Gathered l.self.head.count l.starts l.sizes l.pointers l.bits l.i

abbrev pub decreases-loop-i : goal.decreases-loop-i
decreases-loop-i l = places - l.i
