-- `requests::machine::open` meets its contract: by the tests on the window and the output, and by the header. Assumes nothing.
use Rattle.std.specs.Prelude.{None}
use mathlib.Core.Path.{refl, sym, ap, ◌∙◌}
use lib.ListN.{length}
use Rattle.requests.specs.Machine.{headed}
use Rattle.requests.specs.Inner.{header_said}
use Rattle.requests.specs.Feed.{memory_in, stage_said}
use Rattle.requests.proofs.Feeds.{put-none, came-still, heading-short, heading-no-room, heading-opens, header-memory, no-memory}
use Rattle.requests.proofs.machine.open.Goals as goal

pub returns-then-window-lt-HEADER : goal.returns-then-window-lt-HEADER
returns-then-window-lt-HEADER c lent =
    rw (heading-short lent c.args.state.number (memory_in c.args.state.arena lent) c.args.window.now (length c.args.out.now) c.if-window-lt-HEADER.true)
    (came-still c.args.state c.stay.result lent c.args.out.now c.requires c.stay.ensures)

pub returns-then-out-lt-LINE : goal.returns-then-out-lt-LINE
returns-then-out-lt-LINE c lent =
    rw (heading-no-room lent c.args.state.number (memory_in c.args.state.arena lent) c.args.window.now (length c.args.out.now) c.if-window-lt-HEADER.false c.if-out-lt-LINE.true)
    (came-still c.args.state c.stay-then-out-lt-LINE.result lent c.args.out.now c.requires c.stay-then-out-lt-LINE.ensures)

pub returns-in_default : goal.returns-in_default
unfolding headed header_said stage_said
returns-in_default c lent =
    rw (
    heading-opens lent c.args.state.number (memory_in c.args.state.arena lent) c.args.window.now (length c.args.out.now) {o = None}
    c.if-window-lt-HEADER.false c.if-out-lt-LINE.false (sym c.read_header.ensures ∙ ap header_said c.in_default.is)
    )
    (record {
      stage = refl;
      number = refl;
      memory = no-memory lent c.no_arena.result c.no_arena.ensures;
      beyond = refl;
      taken = refl;
      put = c.put_text-written.ensures;
    })

pub returns : goal.returns
unfolding headed header_said stage_said
returns c lent =
    let said = sym c.read_header.ensures ∙ ap header_said c.in-Some.is in
    rw (
    heading-opens lent c.args.state.number (memory_in c.args.state.arena lent) c.args.window.now (length c.args.out.now)
    c.if-window-lt-HEADER.false c.if-out-lt-LINE.false said
    )
    (record {
      stage = refl;
      number = refl;
      memory = header-memory lent c.args.window.now c.with_min_align_and_capacity-made.result said c.with_min_align_and_capacity-made.ensures;
      beyond = refl;
      taken = refl;
      put = put-none c.args.out.now;
    })
