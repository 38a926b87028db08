-- `relay::Relay::feed_on` meets its contract, by what was written and taken. Assumes nothing.
use Rattle.relay.proofs.Steps.{lines-come, more-to-feed, more-to-read, too_much}
use Rattle.relay.proofs.Relay.feed_on.Goals.{then-left-input, else-left-input}
use Rattle.relay.proofs.Relay.feed_on.Goals as goal

pub returns-then-did-gt0 : goal.returns-then-did-gt0
returns-then-did-gt0 c =
    rw c.ask.ensures
    (lines-come c.args.self c.args.lent.now c.args.input.now c.args.output.now c.feed-did.ensures.came c.requires.0 c.feed-did.ensures.taken_in_bounds c.feed-did.auto.out c.requires.1
    c.if-did-gt0.true)

pub returns-then-did-gt0-2 : goal.returns-then-did-gt0-2
returns-then-did-gt0-2 c =
    rw c.ask-then-did-gt0-2.ensures
    (more-to-feed c.args.self c.args.lent.now c.args.input.now c.args.output.now c.feed-did.ensures.came c.requires.0 c.feed-did.ensures.taken_in_bounds c.feed-did.auto.out c.requires.1
    c.if-did-gt0.false c.if-did-gt0-2.true)

pub returns : goal.returns
returns c =
    elim c.if-left-input.branch [
      | then-left-input w ↦ rw w.next-is
          (more-to-read c.args.self c.args.lent.now c.args.input.now c.args.output.now c.feed-did.ensures.came c.requires.0 c.feed-did.ensures.taken_in_bounds c.feed-did.auto.out c.requires.1
          c.carry.ensures c.if-did-gt0.false c.if-did-gt0-2.false w.if-left-input.true)
      | else-left-input w ↦ rw w.next-is
          (too_much c.args.self c.args.lent.now c.args.input.now c.args.output.now c.feed-did.ensures.came c.requires.0 c.feed-did.ensures.taken_in_bounds c.feed-did.auto.out c.requires.1
          c.carry.ensures c.if-did-gt0.false c.if-did-gt0-2.false w.if-left-input.false)
    ]
