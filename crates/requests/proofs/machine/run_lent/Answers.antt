-- `requests::machine::run_lent` meets its contract: the region's part is put back before the rest of the lent bytes. Assumes nothing.
use mathlib.Core.Path.{◌∙◌}
use lib.Seq.{length-take-le}
use Rattle.requests.proofs.Feeds.{lent-through, through-inside, through-fits}
use Rattle.requests.proofs.machine.run_lent.Goals as goal

pub returns : goal.returns
returns c =
    let a = c.args.arena in
    let n = c.args.number in
    let lent = c.args.lent.now in
    let same = c.run_window.auto.region ∙ length-take-le a.head.region lent c.requires.1 in record {
      through_lent = lent-through a n lent c.args.window.now c.args.out.now c.run_window.ensures same;
      taken_in_bounds = (
        through-inside a n lent c.args.window.now c.args.out.now c.run_window.ensures same,
        through-fits a n lent c.args.window.now c.args.out.now c.run_window.ensures same c.run_window.auto.out,
      );
    }
