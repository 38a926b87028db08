-- `calls::block::is_acceptable` meets its contract. The invariant: some held chunk has the block exactly where some of the chunks left has it, so the
-- chunk at hand settles it or leaves it to the rest. Assumes nothing.
use Prim.Native.Nat.{◌≤◌}
use mathlib.Core.Path.{◌≡◌}
use Rattle.rounding.specs.Every.{any}
use Rattle.arena.specs.Record.{chunks_of}
use Rattle.calls.specs.Tests.{has_block}
use Rattle.calls.proofs.block.is_acceptable.Given as goal

abbrev pub invariant-loop-left : goal.invariant-loop-left
invariant-loop-left l =
    (l.left ≤ l.initial.left) × (any (has_block l.block.offset l.block.layout.size) (chunks_of l.a.lent.starts.now l.a.lent.sizes.now l.a.lent.pointers.now l.initial.left) ≡ any (has_block l.block.offset l.block.layout.size) (chunks_of l.a.lent.starts.now l.a.lent.sizes.now l.a.lent.pointers.now l.left))

abbrev pub decreases-loop-left : goal.decreases-loop-left
decreases-loop-left l = l.left
