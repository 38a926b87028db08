-- The number is a remainder.
use Prim.Native.Nat.{◌<◌}
use Rattle.cost.proofs.number.Given as goal

abbrev pub invariant-loop-d : goal.invariant-loop-d
invariant-loop-d l = l.n < 1000000000
