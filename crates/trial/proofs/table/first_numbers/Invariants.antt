-- The row keeps its length.
use Rattle.std.proofs.Common.{◌≡◌, length}
use Rattle.trial.proofs.table.first_numbers.Given as goal

abbrev pub invariant-loop-place : goal.invariant-loop-place
invariant-loop-place g l = g.row.N ≡ length l.place-items
