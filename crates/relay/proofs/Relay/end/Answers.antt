-- `relay::Relay::end` meets its contract: the ending stands at the front of the output. Assumes nothing.
use Rattle.relay.proofs.Steps.{read-ended-goes}
use Rattle.relay.proofs.Relay.end.Goals as goal

pub returns : goal.returns
returns c =
    read-ended-goes c.args.self c.args.input.now c.args.output.now c.requires.0 c.requires.1 c.finish-written.ensures.put c.finish-written.ensures.upper_bound c.finish-written.auto.out
