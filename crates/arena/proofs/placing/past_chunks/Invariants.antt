-- `arena::placing::past_chunks` meets its contract. The invariant says of the chunks gone through what the contract says of all. Of a multiple
-- between, either the chunks gone through already stood in its way, or the chunk now passed does. Assumes nothing.
use Prim.Native.Nat.{◌+◌, ◌-◌, ◌≤◌, ◌<◌}
use Rattle.arena.specs.Numbers.{most}
use Rattle.arena.specs.Record.{chunks_of}
use Rattle.arena.specs.Inner.{Passed}
use Rattle.arena.proofs.placing.past_chunks.Given as goal

abbrev pub invariant-loop-i : goal.invariant-loop-i
invariant-loop-i l =
    (l.i ≤ l.count) × (l.at < most + l.align) × Passed (chunks_of l.a.lent.starts.now l.a.lent.sizes.now l.a.lent.pointers.now l.i) l.align l.length l.from l.at

abbrev pub decreases-loop-i : goal.decreases-loop-i
decreases-loop-i l = l.count - l.i
