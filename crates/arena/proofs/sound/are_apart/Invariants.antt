-- `arena::sound::are_apart` meets its contract. The loop's invariant: the places passed are apart. The measure is what is left of the count. Assumes nothing.
use Prim.Native.Nat.{◌-◌, ◌≤◌}
use mathlib.Core.Bool.{true}
use mathlib.Core.Path.{◌≡◌}
use Rattle.arena.specs.Record.{chunks_of}
use Rattle.arena.specs.Sound.{apart}
use Rattle.arena.proofs.sound.are_apart.Given as goal

abbrev pub invariant-loop-i : goal.invariant-loop-i
invariant-loop-i l = (l.i ≤ l.count) × (apart (chunks_of l.a.lent.starts.now l.a.lent.sizes.now l.a.lent.pointers.now l.i) ≡ true)

abbrev pub decreases-loop-i : goal.decreases-loop-i
decreases-loop-i l = l.count - l.i
