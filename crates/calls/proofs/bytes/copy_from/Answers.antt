-- `calls::bytes::copy_from` meets its contract: the part that is lent comes back as the source. Assumes nothing.
use Prim.Native.Nat.{◌+◌, ◌-◌}
use native.Mathlib.Omega.{arith}
use lib.ListN.{length}
use Rattle.calls.proofs.Writing.{written_back}
use Rattle.calls.proofs.bytes.copy_from.Goals as goal

pub returns : goal.returns
returns c =
    let start = c.args in
    let lent = start.at + length start.source.now - start.at in
    written_back start.region.now start.at lent start.source.now c.copy_from_slice.new.self c.copy_from_slice.ensures.after (omega arith)
