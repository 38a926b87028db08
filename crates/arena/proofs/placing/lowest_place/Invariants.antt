-- `arena::placing::lowest_place` meets its contract. The invariant: no multiple below the offset fits. So an offset that stays where it is, is
-- the lowest that fits, and past the last one in the region none is left. Assumes nothing.
use Prim.Native.Nat.{ℕ, suc, ◌-◌, ◌<◌, ◌∣◌}
use mathlib.Core.List.{List}
use Rattle.arena.specs.declared.Chunk.{Chunk}
use Rattle.arena.specs.Record.{chunks_of}
use Rattle.arena.proofs.Lowest.{Fits}
use Rattle.arena.proofs.placing.lowest_place.Given as goal

abbrev pub NoneBelow : ℕ → List Chunk → ℕ → ℕ → ℕ → Type 0
NoneBelow region cs n align at = (x : ℕ) → align ∣ x → x < at → Fits region cs n x → ⊥

abbrev pub invariant-loop-at : goal.invariant-loop-at
invariant-loop-at l =
    (l.align ∣ l.at) × NoneBelow l.a.lent.head.region (chunks_of l.a.lent.starts.now l.a.lent.sizes.now l.a.lent.pointers.now l.a.lent.head.count) l.n l.align l.at

abbrev pub decreases-loop-at : goal.decreases-loop-at
decreases-loop-at l = suc l.last - l.at
