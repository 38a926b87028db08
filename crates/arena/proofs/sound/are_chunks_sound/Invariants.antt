-- `arena::sound::are_chunks_sound` meets its contract. The loop's invariant: the chunks passed are sound. The measure is what is left of the count. Assumes nothing.
use Prim.Native.Nat.{◌-◌, ◌≤◌}
use mathlib.Core.Bool.{true}
use mathlib.Core.Path.{◌≡◌}
use Rattle.rounding.specs.Every.{every}
use Rattle.arena.specs.Record.{chunks_of}
use Rattle.arena.specs.Sound.{chunk_sound}
use Rattle.arena.proofs.sound.are_chunks_sound.Given as goal

abbrev pub invariant-loop-i : goal.invariant-loop-i
invariant-loop-i l = (l.i ≤ l.a.head.count) × (every (chunk_sound l.a.head.region l.a.head.minimum) (chunks_of l.a.starts.now l.a.sizes.now l.a.pointers.now l.i) ≡ true)

abbrev pub decreases-loop-i : goal.decreases-loop-i
decreases-loop-i l = l.a.head.count - l.i
