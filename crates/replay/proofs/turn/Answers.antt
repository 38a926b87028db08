-- `replay::turn` goes on by some event: each step is called where it is asked for, on a relay that fits its buffers, and a read keeps the bytes in hand.
use Rattle.relay.specs.Event.{feeds}
use Rattle.relay.specs.View.{GoesOn}
use Rattle.relay.proofs.Reached.{stays_on, read-on}
use Rattle.replay.proofs.turn.Goals as goal

pub returns-in-Feed : goal.returns-in-Feed
unfolding GoesOn
returns-in-Feed g c = (c.feed_on.ensures.0, λ p shows. (feeds, c.feed_on.ensures.1 p shows))

pub returns-in-Read : goal.returns-in-Read
returns-in-Read g c =
    let s = c.args in
    let read = c.read_past in
    let after = c.after_read in
    (after.ensures.0, read-on s.relay after.result s.lent.now s.input.now read.new.input s.output.now after.new.output _ c.requires read.auto.input read.ensures.kept (after.ensures.1 s.lent.now))

pub returns-in-Write : goal.returns-in-Write
unfolding GoesOn
returns-in-Write g c = (c.after_write.ensures.0, λ p shows. (_, c.after_write.ensures.1 c.args.lent.now p shows))

pub returns-in-Done : goal.returns-in-Done
returns-in-Done g c = (c.requires, stays_on c.args.relay c.args.lent.now c.args.input.now c.args.output.now)
