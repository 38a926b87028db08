-- What is written lies in the output.
use Rattle.std.proofs.Common.{◌≤◌, length}
use Rattle.compared.proofs.Replay.run_piece.Given as goal

abbrev pub invariant-loop-bytes : goal.invariant-loop-bytes
invariant-loop-bytes l =
    (goal.iterator-loop-bytes).can_next l.bytes-iterator ×
    (goal.iterator-loop-bytes).is_finite l.bytes-iterator ×
    (l.put ≤ length l.output)
