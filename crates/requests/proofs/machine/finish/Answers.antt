-- `requests::machine::finish` meets its contract: the ending and the last line join. Assumes nothing.
use native.Mathlib.Omega.{arith}
use mathlib.Core.Bool.{true}
use mathlib.Core.Path.{◌≡◌, sym, ◌∙◌, ap}
use borrow.Author.Tests.{le-leb, lt-leb}
use mathlib.Core.List.{◌++◌}
use lib.ListN.{length, length-append}
use Rattle.arena.specs.Record.{held_of}
use Rattle.arena.specs.Ladder.{held_bytes}
use Rattle.arena.specs.Sound.{sound_of}
use Rattle.arena.proofs.Soundness.{ready-shut, lent-ready}
use Rattle.requests.specs.Text.{held_line}
use Rattle.requests.specs.Machine.{ending_text}
use Rattle.requests.specs.Inner.{Put}
use Rattle.requests.specs.Feed.{end_room, final_text, stage_said}
use Rattle.requests.proofs.Lines.{ending-length, held-length}
use Rattle.requests.proofs.Putting.{put_then}
use Rattle.requests.proofs.Feeds.{put-none}
use Rattle.requests.proofs.machine.finish.Goals as goal

pub returns-then-out-lt-END : goal.returns-then-out-lt-END
unfolding final_text
returns-then-out-lt-END c =
    let a = c.args in
    rw (lt-leb end_room (length a.out.now) c.if-out-lt-END.true) (record { put = put-none a.out.now; upper_bound = omega arith })

pub returns-in_default : goal.returns-in_default
unfolding final_text
returns-in_default c =
    let a = c.args in
    rw (le-leb end_room (length a.out.now) c.if-out-lt-END.false, c.in_default.ensures.unsound) (record { put = put-none a.out.now; upper_bound = omega arith })

pub invariant_of-held_bytes : goal.invariant_of-held_bytes
invariant_of-held_bytes c = record { ready = ready-shut (lent-ready c.in-Some.sound.lent c.in-Some.sound.sound) }

pub put_held-requires : goal.put_held-requires
put_held-requires c =
    let l = ending-length (stage_said c.args.state.stage) c.args.state.number c.args.rest.now in
    omega (arith, c.put_ending-ended.ensures.moved, c.put_ending-ended.auto.out, l, c.if-out-lt-END.false)

pub returns : goal.returns
unfolding final_text held_line
returns c =
    let sound-said : sound_of c.args.state.arena ≡ true = sym (ap sound_of c.in-Some.ensures.same) ∙ c.in-Some.sound.sound in
    let out = c.args.out.now in
    let a = c.args.state.arena in
    let stage = stage_said c.args.state.stage in
    let n = c.args.state.number in
    let rest = c.args.rest.now in
    let l = ending-length stage n rest in
    let held : Put c.put_ending-ended.new.out c.put_ending-ended.result (held_line a) c.put_held.new.out c.put_held.result = rw (sym (c.held_bytes-held.ensures ∙ ap (λ a. held_bytes (held_of a)) c.in-Some.ensures.same)) c.put_held.ensures in
    let both : Put out 0 (ending_text stage n rest ++ held_line a) c.put_held.new.out c.put_held.result = put_then (omega (arith, c.put_ending-ended.ensures.moved, c.put_ending-ended.auto.out, l, c.if-out-lt-END.false)) c.put_ending-ended.ensures held in
    rw (le-leb end_room (length out) c.if-out-lt-END.false, sound-said)
    (record { put = both; upper_bound = omega (arith, both.moved, length-append (ending_text stage n rest) (held_line a), l, held-length a, c.if-out-lt-END.false, c.put_held.auto.out, c.put_ending-ended.auto.out) })
