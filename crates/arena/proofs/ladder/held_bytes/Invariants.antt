-- `arena::ladder::held_bytes` meets its contract. The invariant: what is counted is held in the places passed. Assumes nothing.
use Prim.Native.Nat.{◌≤◌, ◌-◌, ◌*◌}
use mathlib.Core.Path.{◌≡◌}
use Rattle.arena.specs.Record.{chunks_of}
use Rattle.arena.specs.Ladder.{held_bytes}
use Rattle.arena.specs.Numbers.{most}
use Rattle.arena.proofs.ladder.held_bytes.Given as goal

abbrev pub invariant-loop-i : goal.invariant-loop-i
invariant-loop-i l =
    (l.i ≤ l.count) × (l.held ≡ held_bytes (chunks_of l.a.lent.starts.now l.a.lent.sizes.now l.a.lent.pointers.now l.i)) × (l.held ≤ l.i * most)

abbrev pub decreases-loop-i : goal.decreases-loop-i
decreases-loop-i l = l.count - l.i
