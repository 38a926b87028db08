-- `arena::sound::is_clear_of_earlier` meets its contract. The loop's invariant: the chunk is clear of each place passed. The measure is what is left of the
-- places before it. That no sum wraps follows from the chunks' standing in the region. Assumes nothing.
use Prim.Native.Nat.{◌-◌, ◌≤◌}
use mathlib.Core.Bool.{true}
use mathlib.Core.Path.{◌≡◌}
use Rattle.rounding.specs.Every.{every}
use Rattle.arena.specs.Record.{chunks_of}
use Rattle.arena.specs.Sound.{clear}
use Rattle.arena.proofs.sound.is_clear_of_earlier.Given as goal

abbrev pub invariant-loop-j : goal.invariant-loop-j
invariant-loop-j l = (l.j ≤ l.i) × (every (clear l.c) (chunks_of l.a.lent.starts.now l.a.lent.sizes.now l.a.lent.pointers.now l.j) ≡ true)

abbrev pub decreases-loop-j : goal.decreases-loop-j
decreases-loop-j l = l.i - l.j
