-- `arena::ladder::take_rung` meets its contract: each way out is one clause of what a rung gives. Assumes nothing.
use native.Mathlib.Omega.{arith}
use mathlib.Core.Path.{◌≡◌, sym, ◌∙◌, ap}
use Rattle.std.specs.Prelude.{option_map}
use Rattle.arena.specs.Placing.{lowest_place}
use Rattle.arena.specs.Ladder.{new_chunk, rung_chunk}
use Rattle.arena.specs.Inner.{lent_of}
use Rattle.arena.proofs.Lowest.{lowest-fits}
use Rattle.arena.proofs.Soundness.{align-open}
use Rattle.arena.proofs.Usable.{usable-bound}
use Rattle.arena.proofs.View.{length-chunks}
use Rattle.arena.proofs.Rungs.{rung-over-limit, rung-table-full, rung-placed}
use Rattle.arena.proofs.Soundness.{inside-ready}
use Rattle.arena.proofs.ladder.take_rung.Goals as goal
use Rattle.arena.specs.Record.{held_of}

pub returns-then-not-is_under_limit : goal.returns-then-not-is_under_limit
returns-then-not-is_under_limit c =
    sym
    (rung-over-limit _ _ _ _ _ c.requires.held_value c.usable_size-n.ensures (sym c.is_under_limit.ensures ∙ c.if-not-is_under_limit.true))

pub returns-then-h-ge-PLACES : goal.returns-then-h-ge-PLACES
returns-then-h-ge-PLACES c =
    sym
    (rung-table-full _ _ _ _ _ c.requires.held_value c.usable_size-n.ensures
    (omega (arith, length-chunks c.args.a.now.lent.starts.now c.args.a.now.lent.sizes.now c.args.a.now.lent.pointers.now c.args.a.now.lent.head.count)))

pub lowest_place-requires : goal.lowest_place-requires
lowest_place-requires c =
    let align = align-open c.args.request.layout.align c.args.request.align in
    let bound = usable-bound c.args.base c.args.request.layout.size c.args.request.layout.align c.requires.base_bound c.args.request.size align.bound in
    (omega arith, omega (arith, align.bound), omega (arith, bound))

pub returns-in_err-start : goal.returns-in_err-start
returns-in_err-start c =
    let placed : (let cs = held_of (lent_of c.args.a.now.lent) in let n = c.usable_size-n.result in rung_chunk c.args.a.now.lent.head cs c.args.request.layout.size c.args.request.layout.align c.args.base ≡ option_map (new_chunk n) (lowest_place c.args.a.now.lent.head.region cs c.max.result n)) = rung-placed _ _ _ _ _ c.requires.held_value
    c.usable_size-n.ensures
    c.max.ensures
    (sym c.is_under_limit.ensures ∙ c.if-not-is_under_limit.false)
    (omega (arith, length-chunks c.args.a.now.lent.starts.now c.args.a.now.lent.sizes.now c.args.a.now.lent.pointers.now c.args.a.now.lent.head.count)) in
    c.from_residual.ensures ∙ sym (placed ∙ ap (option_map (new_chunk _)) (sym c.lowest_place.ensures ∙ c.in_err-start.was))

pub overflow_add-result : goal.overflow_add-result
overflow_add-result c =
    let align = align-open c.args.request.layout.align c.args.request.align in
    let found = sym c.lowest_place.ensures ∙ c.in_ok-start.was in
    let fits = (lowest-fits c.args.a.now.lent.head.region _ _ {a = c.max.result} (omega arith) found).1 in
    omega (arith, fits.inside, (inside-ready c.args.a.now).region_bound)

pub returns : goal.returns
returns c =
    let placed : (let cs = held_of (lent_of c.args.a.now.lent) in let n = c.usable_size-n.result in rung_chunk c.args.a.now.lent.head cs c.args.request.layout.size c.args.request.layout.align c.args.base ≡ option_map (new_chunk n) (lowest_place c.args.a.now.lent.head.region cs c.max.result n)) = rung-placed _ _ _ _ _ c.requires.held_value
    c.usable_size-n.ensures
    c.max.ensures
    (sym c.is_under_limit.ensures ∙ c.if-not-is_under_limit.false)
    (omega (arith, length-chunks c.args.a.now.lent.starts.now c.args.a.now.lent.sizes.now c.args.a.now.lent.pointers.now c.args.a.now.lent.head.count)) in
    sym (placed ∙ ap (option_map (new_chunk _)) (sym c.lowest_place.ensures ∙ c.in_ok-start.was))
