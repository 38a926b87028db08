-- `arena::ladder::climb` meets its contract. The invariant: the base is what some halvings of the first come to, and nothing before it is
-- served. Each way out settles the ladder from there. Assumes nothing.
use Prim.Native.Nat.{ℕ, ◌≤◌, ◌^◌}
use native.Mathlib.Omega.{arith}
use native.Mathlib.Nat.{le_trans}
use mathlib.Core.Path.{◌≡◌, sym, ◌∙◌, ap}
use Rattle.arena.specs.Ladder.{held_bytes, tried, first_base}
use Rattle.arena.specs.Inner.{lent_of}
use Rattle.arena.proofs.Rungs.{climb-starts, climb-bound, climb-served, climb-out, climb-ends, climb-on, first-base-bound}
use Rattle.arena.proofs.Soundness.{inside-ready}
use Rattle.arena.proofs.ladder.climb.Goals as goal
use Rattle.arena.specs.Record.{held_of}

pub loop-request-init : goal.loop-request-init
loop-request-init c =
    rw c.first_base-base.ensures (climb-starts c.args.a.now.lent.head (held_of (lent_of c.args.a.now.lent)) c.args.request.layout.size c.args.request.layout.align)

pub take_rung-requires : goal.take_rung-requires
take_rung-requires c =
    let first-bound : (first_base (held_of (lent_of c.args.a.now.lent)) c.args.request.layout.size ≤ 2 ^ 31) = first-base-bound _ (inside-ready c.args.a.now).inside (inside-ready c.args.a.now).region_bound c.args.request.size in
    record {
      base_bound = le_trans (climb-bound _ _ _ _ c.loop-request.invariant) first-bound;
      held_value = c.held_bytes-held.ensures;
    }

pub returns-in-Some : goal.returns-in-Some
returns-in-Some c =
    let tested : (c.is_tried.result ≡ tried c.args.a.now.lent.head (held_bytes (held_of (lent_of c.args.a.now.lent))) c.args.request.layout.size c.loop-request.base) = c.is_tried.ensures ∙ ap (λ (held : ℕ). tried c.args.a.now.lent.head held c.args.request.layout.size c.loop-request.base) c.held_bytes-held.ensures in
    sym (climb-served _ _ _ _ c.loop-request.invariant (sym tested ∙ c.loop-request-test.true) (sym c.take_rung.ensures ∙ c.in-Some.is))

pub returns-then-base-eq0 : goal.returns-then-base-eq0
returns-then-base-eq0 c =
    let tested : (c.is_tried.result ≡ tried c.args.a.now.lent.head (held_bytes (held_of (lent_of c.args.a.now.lent))) c.args.request.layout.size c.loop-request.base) = c.is_tried.ensures ∙ ap (λ (held : ℕ). tried c.args.a.now.lent.head held c.args.request.layout.size c.loop-request.base) c.held_bytes-held.ensures in
    sym (climb-ends _ _ _ _ c.loop-request.invariant c.if-base-eq0.true (sym tested ∙ c.loop-request-test.true) (sym c.take_rung.ensures ∙ c.in_default.is))

pub loop-request-smaller : goal.loop-request-smaller
loop-request-smaller c = omega (arith, c.if-base-eq0.false)

pub loop-request-preserved : goal.loop-request-preserved
loop-request-preserved c =
    let tested : (c.is_tried.result ≡ tried c.args.a.now.lent.head (held_bytes (held_of (lent_of c.args.a.now.lent))) c.args.request.layout.size c.loop-request.base) = c.is_tried.ensures ∙ ap (λ (held : ℕ). tried c.args.a.now.lent.head held c.args.request.layout.size c.loop-request.base) c.held_bytes-held.ensures in
    let first-bound : (first_base (held_of (lent_of c.args.a.now.lent)) c.args.request.layout.size ≤ 2 ^ 31) = first-base-bound _ (inside-ready c.args.a.now).inside (inside-ready c.args.a.now).region_bound c.args.request.size in
    climb-on _ _ _ _ c.loop-request.invariant (omega (arith, first-bound)) c.if-base-eq0.false (sym tested ∙ c.loop-request-test.true)
    (sym c.take_rung.ensures ∙ c.in_default.is)

pub returns : goal.returns
returns c =
    let tested : (c.is_tried.result ≡ tried c.args.a.now.lent.head (held_bytes (held_of (lent_of c.args.a.now.lent))) c.args.request.layout.size c.loop-request.base) = c.is_tried.ensures ∙ ap (λ (held : ℕ). tried c.args.a.now.lent.head held c.args.request.layout.size c.loop-request.base) c.held_bytes-held.ensures in
    sym (climb-out _ _ _ _ c.loop-request.invariant (sym tested ∙ c.loop-request-test.false))
