-- The relay fits its buffers, whose lengths stay, and was reached by as many events as turns are gone.
use mathlib.Core.Path.{◌≡◌}
use lib.ListN.{length}
use Rattle.relay.specs.View.{Fits, Reached}
use Rattle.replay.proofs.replay.Given as goal

abbrev pub invariant-loop : goal.invariant-loop
invariant-loop g l =
    record {
      fits : Fits l.relay (length l.input) (length l.output);
      same_lent : length l.lent ≡ length l.initial.lent;
      same_input : length l.input ≡ length l.initial.input;
      same_output : length l.output ≡ length l.initial.output;
      reached : Reached l.counter l.initial.lent l.relay l.lent l.input l.output;
    }
