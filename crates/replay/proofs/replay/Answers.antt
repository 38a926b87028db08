-- `replay::replay` comes by some row of events to where it stops: after each turn the relay fits its buffers, and one event more has happened.
use Rattle.std.proofs.Common.{◌+◌, inl, inr, refl, sym, arith}
use mathlib.Core.Path.{◌∙◌}
use Rattle.relay.specs.View.{Reached, Stopped}
use Rattle.relay.proofs.Reached.{begun-fits, begun-reached, goes-reached}
use Rattle.replay.proofs.replay.Given.{Over}
use Rattle.replay.proofs.replay.Goals.{After-turn-relay}
use Rattle.replay.proofs.replay.Goals as goal

went : (g : Over) (c : After-turn-relay g) →
    Reached (c.loop.counter + 1) c.args.lent.now c.turn-relay.result c.turn-relay.new.lent c.turn-relay.new.input c.turn-relay.new.output
went g c =
    let l = c.loop in
    let t = c.turn-relay in
    goes-reached l.counter c.args.lent.now l.relay t.result l.lent l.input l.output t.new.lent t.new.input t.new.output l.invariant.same_lent t.auto.input
    t.auto.output l.invariant.reached t.ensures.1

pub loop-init : goal.loop-init
loop-init g c =
    let a = c.args in
    rw c.begin-relay.ensures
    (record {
      fits = begun-fits _ _;
      same_lent = refl;
      same_input = refl;
      same_output = refl;
      reached = begun-reached a.lent.now a.input.now a.output.now;
    })

pub returns-then-is_over : goal.returns-then-is_over
unfolding Stopped
returns-then-is_over g c = (_, went g (goal.at.returns-then-is_over g c).After-turn-relay, inl (sym c.is_over.ensures ∙ c.if-is_over.true))

pub loop-preserved : goal.loop-preserved
loop-preserved g c =
    record {
      fits = c.turn-relay.ensures.0;
      same_lent = omega arith;
      same_input = omega arith;
      same_output = omega arith;
      reached = went g (goal.at.loop-preserved g c).After-turn-relay;
    }

pub returns : goal.returns
unfolding Stopped
returns g c = (_, c.loop.invariant.reached, inr (omega arith))
