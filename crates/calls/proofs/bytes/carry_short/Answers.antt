-- `calls::bytes::carry_short` meets its contract: the block holds the bytes as they stood. Assumes nothing.
use mathlib.Core.Path.{◌≡◌, ap, ◌∙◌}
use Prim.Native.Nat.{◌+◌, ◌-◌}
use native.Mathlib.Omega.{arith}
use lib.ListN.{length}
use lib.Seq.{take_at}
use Rattle.calls.specs.Bytes.{part}
use Rattle.calls.proofs.Writing.{length_part, carried-block}
use Rattle.calls.proofs.bytes.carry_short.Goals as goal

pub returns : goal.returns
returns c =
    let start = c.args in
    let bytes = start.region.now in
    let same : start.from + start.n - start.from ≡ start.n = omega arith in
    let read = c.copy_from_slice.ensures.after ∙ ap (part bytes start.from) same in
    let long : length c.copy_from_slice.new.self ≡ start.n = ap length read ∙ length_part bytes start.from start.n c.requires.1 in
    carried-block bytes start.from start.to start.n (take_at c.copy_from_slice.new.self _ start.n long ∙ read) c.copy_from.ensures
