-- `calls::allocate::placed_slow` meets its contract: the ladder's chunk, and then what that chunk gives, are the definition's two stages.
-- Assumes nothing.
use native.Mathlib.Omega.{arith}
use Rattle.std.specs.Prelude.{Some}
use mathlib.Core.Path.{◌≡◌, sym, ◌∙◌, ap}
use Rattle.rounding.proofs.Powers.{power-one-bit}
use Rattle.arena.specs.Record.{held_of}
use Rattle.arena.specs.Ladder.{ladder}
use Rattle.arena.proofs.Rungs.{ladder-served}
use Rattle.arena.proofs.Served.{rung-fresh}
use Rattle.arena.proofs.Soundness.{align-open, sound-open}
use Rattle.arena.proofs.View.{length-chunks}
use Rattle.calls.specs.Allocate.{new_chunk_gives}
use Rattle.calls.proofs.Giving.{new-chunk-gives}
use Rattle.calls.proofs.Placing.{placed-nowhere, placed-added}
use Rattle.arena.proofs.Soundness.{ready-shut, lent-ready}
use Rattle.calls.proofs.allocate.placed_slow.Goals as goal
use Rattle.arena.specs.Inner.{lent_of}

pub invariant_of-climb : goal.invariant_of-climb
invariant_of-climb c = record { ready = ready-shut (lent-ready c.args.a.now.lent c.args.a.now.sound) }

pub returns-in_default : goal.returns-in_default
unfolding new_chunk_gives
returns-in_default c =
    let a = lent_of c.args.a.now.lent in
    let nothing = sym c.climb.ensures ∙ c.in_default.is in
    placed-nowhere a c.refused.ensures (ap (λ o. new_chunk_gives a.head.minimum (held_of a) o c.args.request.layout.size c.args.request.layout.align) nothing)

pub chunk_gives-requires : goal.chunk_gives-requires
chunk_gives-requires c =
    let head = (sound-open _ c.args.a.now.sound).head in
    (power-one-bit head.minimum-power, head.minimum-bound)

pub returns-in_default-chunk_gives : goal.returns-in_default-chunk_gives
returns-in_default-chunk_gives c =
    let new-chunk : ladder c.args.a.now.lent.head (held_of (lent_of c.args.a.now.lent)) c.args.request.layout.size c.args.request.layout.align ≡ Some c.in-Some.c = sym c.climb.ensures ∙ c.in-Some.is in
    let a = lent_of c.args.a.now.lent in
    let full = sym c.chunk_gives.ensures ∙ c.in_default-chunk_gives.is in
    placed-nowhere a c.refused-in_default-chunk_gives.ensures (new-chunk-gives a.head.minimum _ c.args.request.layout.size c.args.request.layout.align (held_of a) new-chunk full)

pub returns : goal.returns
returns c =
    let new-chunk : ladder c.args.a.now.lent.head (held_of (lent_of c.args.a.now.lent)) c.args.request.layout.size c.args.request.layout.align ≡ Some c.in-Some.c = sym c.climb.ensures ∙ c.in-Some.is in
    let a = lent_of c.args.a.now.lent in
    let room = sym c.chunk_gives.ensures ∙ c.in-Some-chunk_gives.is in
    let rung = ladder-served a.head (held_of a) c.args.request.layout.size c.args.request.layout.align new-chunk in
    let power = (align-open c.args.request.layout.align c.args.request.align).power in
    let fresh = rung-fresh a.head (held_of a) c.args.request.layout.size rung.base power rung.gives in
    placed-added a (new-chunk-gives a.head.minimum _ c.args.request.layout.size c.args.request.layout.align (held_of a) new-chunk room)
    (omega (arith, fresh.place-free, length-chunks a.starts a.sizes a.pointers a.head.count))
