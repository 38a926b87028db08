-- `replay::read_past` keeps the bytes in hand: the read is lent those after them alone.
use lib.ListN.{take}
use lib.Seq.{take_at, length-take-le}
use Rattle.replay.proofs.read_past.Goals as goal

pub returns-clause-kept : goal.returns-clause-kept
returns-clause-kept g c =
    let input = c.args.input.now in
    take_at (take c.args.filled input) _ c.args.filled (length-take-le c.args.filled input c.requires)
