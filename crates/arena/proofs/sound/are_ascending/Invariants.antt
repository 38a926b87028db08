-- `arena::sound::are_ascending` meets its contract. The invariant: the held chunks ascend exactly where those left ascend below the top, so the chunk at hand ends it
-- or leaves it to the rest. The measure is what is left. Assumes nothing.
use Prim.Native.Nat.{◌≤◌}
use mathlib.Core.Path.{◌≡◌}
use Rattle.arena.specs.Record.{chunks_of}
use Rattle.arena.specs.Inner.{ascending}
use Rattle.arena.proofs.sound.are_ascending.Given as goal

abbrev pub invariant-loop-left : goal.invariant-loop-left
invariant-loop-left l =
    (l.left ≤ l.initial.left)
    × (ascending l.initial.top l.a.head.minimum (chunks_of l.a.starts.now l.a.sizes.now l.a.pointers.now l.initial.left) ≡ ascending l.top l.a.head.minimum (chunks_of l.a.starts.now l.a.sizes.now l.a.pointers.now l.left))

abbrev pub decreases-loop-left : goal.decreases-loop-left
decreases-loop-left l = l.left
