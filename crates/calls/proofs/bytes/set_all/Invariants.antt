-- `calls::bytes::set_all` meets its contract: after i turns the first i bytes are the value and the rest stand. Assumes nothing.
use mathlib.Core.Path.{◌≡◌}
use mathlib.Core.List.{◌++◌}
use lib.ListN.{drop, replicate}
use Rattle.calls.proofs.bytes.set_all.Given as goal

abbrev pub invariant-loop-byte : goal.invariant-loop-byte
invariant-loop-byte l = l.part ≡ replicate l.byte-index l.value ++ drop l.byte-index l.initial.part
