-- `requests::machine::run_on` meets its contract: by whether a bad record comes next. Assumes nothing.
use Rattle.std.proofs.Common.{sym}
use Rattle.requests.proofs.Stepping.{not_taken}
use Rattle.requests.proofs.Feeds.{came-bad, came-good}
use Rattle.requests.proofs.machine.run_on.Goals as goal

pub returns-then-is_bad_next : goal.returns-then-is_bad_next
returns-then-is_bad_next c =
    let a = c.args in
    let r = c.run_lent-number in
    came-bad a.state.arena a.state.number a.lent.now a.window.now a.out.now r.ensures.through_lent r.auto.out
    (rw not_taken at (sym c.if-is_bad_next.ensures)) c.put_numbered-end.ensures

pub returns : goal.returns
returns c =
    let a = c.args in
    let r = c.run_lent-number in
    came-good a.state.arena a.state.number a.lent.now a.window.now a.out.now r.ensures.through_lent r.auto.out
    (rw not_taken at (sym c.if-is_bad_next.ensures))
