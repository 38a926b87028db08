-- Every weight's halves stay below 2^31.
use Rattle.std.proofs.Common.{◌<◌}
use Rattle.compared.proofs.digest.set_weights.Given as goal

abbrev pub invariant-loop-weight : goal.invariant-loop-weight
invariant-loop-weight l = l.w < 2147483648
