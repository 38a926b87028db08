-- `requests::window::run_window` meets its contract. The invariant: the bytes taken so far bring the machine to the record, the region and the
-- number at hand, and to the text written; each turn takes one record more. Assumes nothing.
use Prim.Native.Nat.{◌-◌}
use native.Mathlib.Omega.{arith}
use mathlib.Core.Bool.{false}
use mathlib.Core.Path.{◌≡◌, refl, sym, ap, ◌∙◌}
use lib.ListN.{length, drop}
use Rattle.std.proofs.Common.{Result, Ok, Err}
use Rattle.arena.specs.declared.Arena.{Arena}
use Rattle.arena.specs.Record.{record_of}
use Rattle.requests.specs.declared.Record.{Record}
use Rattle.requests.specs.declared.Ending.{Ending}
use Rattle.requests.specs.declared.Ending.TheVariants.{Complete, CutOff, BadRecord}
use Rattle.requests.specs.Front.{front_of}
use Rattle.requests.specs.Inner.{request_said, front_said, reply_said, ran_said}
use Rattle.requests.specs.Run.{ran_to, run_in}
use Rattle.requests.specs.Window.{memory_of}
use Rattle.requests.proofs.Stepping.{is_whole, stops-by-front, stops-by-room, not_taken, found, reached-start, reached-step, reached-end}
use Rattle.requests.proofs.window.run_window.Goals as goal

pub loop-out-init : goal.loop-out-init
loop-out-init c =
    (reached-start c.args.number c.args.arena c.args.region.now c.args.window.now c.args.out.now c.requires.arena_value.0 c.requires.arena_value.1, refl)

pub overflow_add-taken : goal.overflow_add-taken
unfolding front_said
overflow_add-taken c =
    let f = found c.args.window.now c.loop-out.taken c.loop-out.invariant.0.inside c.in-Ok.ensures in
    omega (arith, f.inside, c.requires.window_bound)

pub overflow_add-next : goal.overflow_add-next
unfolding front_said
overflow_add-next c =
    let f = found c.args.window.now c.loop-out.taken c.loop-out.invariant.0.inside c.in-Ok.ensures in
    omega (arith, f.some, f.inside, c.requires.window_bound, c.loop-out.invariant.0.counted)

pub loop-out-smaller : goal.loop-out-smaller
unfolding front_said
loop-out-smaller c =
    let f = found c.args.window.now c.loop-out.taken c.loop-out.invariant.0.inside c.in-Ok.ensures in
    omega (arith, f.some, f.inside)

pub loop-out-preserved : goal.loop-out-preserved
unfolding front_said ran_said
loop-out-preserved c =
    let own : Arena = record_of c.loop-out.head c.loop-out.starts c.loop-out.sizes c.loop-out.pointers in
    let f = found c.args.window.now c.loop-out.taken c.loop-out.invariant.0.inside c.in-Ok.ensures in
    let after : ran_to (reply_said c.run-ran.result.reply) (record_of c.make-head.result c.make-head.new.starts c.make-head.new.sizes c.make-head.new.pointers) c.run-ran.new.region ≡ run_in (request_said c.in-Ok.record.request) own c.loop-out.region = ap (λ (b : Arena). ran_to (reply_said c.run-ran.result.reply) b c.run-ran.new.region) c.make-head.ensures ∙ c.run-ran.ensures in (
      reached-step c.args.number (memory_of c.args.arena c.args.region.now) c.args.window.now c.args.out.now own c.loop-out.next
          c.loop-out.taken c.loop-out.written c.loop-out.region c.loop-out.out c.loop-out.invariant.0 c.in-Ok.record.size (request_said c.in-Ok.record.request) (reply_said c.run-ran.result.reply)
          (record_of c.make-head.result c.make-head.new.starts c.make-head.new.sizes c.make-head.new.pointers) c.run-ran.new.region c.put_line-written.new.out c.put_line-written.result f.front
          after c.run-ran.auto.region
          (omega (arith, c.loop-out-test.true, c.loop-out.invariant.0.fits)) c.put_line-written.ensures,
      c.run-ran.auto.region ∙ c.loop-out.invariant.1,
    )

-- the output has no room for a line
pub returns-after-loop-out : goal.returns-after-loop-out
returns-after-loop-out c =
    let own : Arena = record_of c.loop-out.head c.loop-out.starts c.loop-out.sizes c.loop-out.pointers in
    let l = c.loop-out in
    reached-end c.args.number (memory_of c.args.arena c.args.region.now) c.args.window.now c.args.out.now own l.next
    l.taken l.written l.region l.out l.invariant.0
    (stops-by-room l.invariant.0.turns (length c.args.out.now - l.written) l.next (memory_of own l.region) (drop l.taken c.args.window.now)
    (omega (arith, l.invariant.0.same, c.loop-out-test.false)))

-- a front that is not opened is not whole
not-whole : (f : Result Record Ending) → ((r : Record) → f ≡ Ok r → ⊥) → is_whole (front_said f) ≡ false
unfolding front_said
not-whole (Ok r) other = absurd (other r refl)
not-whole (Err Complete) other = refl
not-whole (Err CutOff) other = refl
not-whole (Err BadRecord) other = refl

pub returns-in_default : goal.returns-in_default
returns-in_default c =
    let own : Arena = record_of c.loop-out.head c.loop-out.starts c.loop-out.sizes c.loop-out.pointers in
    let l = c.loop-out in
    let window = c.args.window.now in
    reached-end c.args.number (memory_of c.args.arena c.args.region.now) window c.args.out.now own l.next
    l.taken l.written l.region l.out l.invariant.0
    (stops-by-front l.invariant.0.turns (length c.args.out.now - l.written) l.next (memory_of own l.region) (drop l.taken window)
    (sym (ap is_whole (c.read_front.ensures ∙ ap front_of (not_taken window l.taken))) ∙ not-whole _ c.in_default.not-Ok))
