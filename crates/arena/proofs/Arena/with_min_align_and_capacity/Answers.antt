-- `arena::Arena::with_min_align_and_capacity` meets its contract: each way out is one clause of the definition. Assumes nothing.
use Prim.Native.Nat.{ℕ, ◌≤◌, zero-le}
use native.Mathlib.Omega.{arith}
use mathlib.Core.Bool.{true}
use mathlib.Core.List.{[]}
use mathlib.Core.Path.{◌≡◌, refl, sym, subst, ◌∙◌, ap}
use Rattle.rounding.proofs.Tests.{taken_false, left-true}
use Rattle.std.specs.Prelude.{Option, Ok}
use Rattle.arena.specs.Numbers.{most}
use Rattle.arena.specs.Record.{chunks_of, held_of, holding}
use Rattle.arena.specs.Sound.{allowed_minimum, limit_formed}
use Rattle.arena.specs.Ladder.{held_bytes, rung_chunk}
use Rattle.arena.specs.Inner.{Ready}
use Rattle.arena.specs.declared.Arena.{Arena}
use Rattle.arena.specs.declared.Chunk.{Chunk}
use Rattle.arena.specs.declared.Head.{Head}
use Rattle.arena.specs.Creation.{fresh_head}
use Rattle.arena.proofs.Emptied.{emptied-sound, emptied-count, emptied-taken}
use Rattle.arena.proofs.Made.{region-too-long, capacity-too-large, minimum-not-allowed, made-empty, made-no-room, made_one}
use Rattle.arena.proofs.Soundness.{ready-shut, Settings, minimum-open, align-shut}
use Rattle.arena.proofs.Arena.with_min_align_and_capacity.Goals as goal

-- the rung of a record that holds no chunk
first-rung : (h : Head) (a : Arena) (size align base : ℕ) {got : Option Chunk} → got ≡ rung_chunk a.head (held_of a) size align base → a ≡ holding h []
    → rung_chunk (record { region = h.region; minimum = h.minimum; limited = h.limited; limit = h.limit; count = 0 }) [] size align base ≡ got
unfolding holding chunks_of
first-rung h a size align base got fresh = sym (got ∙ ap (λ (b : Arena). rung_chunk b.head (held_of b) size align base) fresh)

pub returns-then-region-gt-MOST : goal.returns-then-region-gt-MOST
returns-then-region-gt-MOST c = c.refused_creation.ensures ∙ sym (region-too-long _ _ _ c.if-region-gt-MOST.true)

pub returns-then-capacity-gt-MOST : goal.returns-then-capacity-gt-MOST
returns-then-capacity-gt-MOST c = c.refused_creation-then-capacity-gt-MOST.ensures ∙ sym (capacity-too-large _ _ _ c.if-region-gt-MOST.false c.if-capacity-gt-MOST.true)

pub returns-then-not-is_allowed_minimum : goal.returns-then-not-is_allowed_minimum
returns-then-not-is_allowed_minimum c =
    c.refused_creation-then-not-is_allowed_minimum.ensures
    ∙ sym
    (minimum-not-allowed _ _ _ c.if-region-gt-MOST.false c.if-capacity-gt-MOST.false
    (taken_false c.is_allowed_minimum.ensures c.if-not-is_allowed_minimum.true))

pub returns-then-capacity-eq0 : goal.returns-then-capacity-eq0
returns-then-capacity-eq0 c =
    let region_bound : c.args.region ≤ most = c.if-region-gt-MOST.false in
    let capacity-bound : c.args.capacity ≤ most = c.if-capacity-gt-MOST.false in
    let minimum-allowed : allowed_minimum c.args.minimum ≡ true = left-true c.is_allowed_minimum.ensures c.if-not-is_allowed_minimum.false in
    (λ i. record { answer = Ok tt; arena = c.emptied-fresh.ensures i })
    ∙ sym (made-empty _ _ _ region_bound capacity-bound minimum-allowed c.if-capacity-eq0.true)

pub invariant_of-inside : goal.invariant_of-inside
unfolding holding chunks_of
invariant_of-inside c =
    let region_bound : c.args.region ≤ most = c.if-region-gt-MOST.false in
    let fresh = c.lent.ensures ∙ c.emptied-fresh.ensures in
    record { ready = ready-shut (subst (λ (a : Arena). Ready a.head (held_of a)) (sym fresh) (record { region_bound = region_bound; count_bound = zero-le; inside = tt })) }

pub invariant_of-request : goal.invariant_of-request
invariant_of-request c =
    let minimum = minimum-open _ (left-true c.is_allowed_minimum.ensures c.if-not-is_allowed_minimum.false) in
    record {
      size = c.if-capacity-gt-MOST.false;
      align = align-shut (record { power = minimum.power; bound = omega (arith, minimum.bound) });
    }

pub take_rung-got-requires : goal.take_rung-got-requires
unfolding holding chunks_of held_bytes
take_rung-got-requires c =
    record {
      base_bound = omega arith;
      held_value = sym (ap (λ (a : Arena). held_bytes (held_of a)) (c.lent.ensures ∙ c.emptied-fresh.ensures));
    }

pub returns-in_default : goal.returns-in_default
unfolding chunks_of
returns-in_default c =
    let region_bound : c.args.region ≤ most = c.if-region-gt-MOST.false in
    let capacity-bound : c.args.capacity ≤ most = c.if-capacity-gt-MOST.false in
    let minimum-allowed : allowed_minimum c.args.minimum ≡ true = left-true c.is_allowed_minimum.ensures c.if-not-is_allowed_minimum.false in
    c.refused_creation-in_default.ensures
    ∙ sym
    (made-no-room _ _ _ region_bound capacity-bound minimum-allowed c.if-capacity-eq0.false
    (first-rung _ _ _ _ _ c.take_rung-got.ensures (c.lent.ensures ∙ c.emptied-fresh.ensures) ∙ c.in_default.is))

pub with_chunk-requires : goal.with_chunk-requires
unfolding limit_formed
with_chunk-requires c =
    let region_bound : c.args.region ≤ most = c.if-region-gt-MOST.false in
    let minimum-allowed : allowed_minimum c.args.minimum ≡ true = left-true c.is_allowed_minimum.ensures c.if-not-is_allowed_minimum.false in
    let minimum = minimum-open _ minimum-allowed in
    let fresh : Settings (fresh_head c.args.region c.args.minimum) =
    record { minimum-power = minimum.power; minimum-bound = minimum.bound; region_bound = region_bound; limit-formed = refl } in
    (emptied-sound fresh c.emptied-fresh.ensures, omega (arith, emptied-count _ c.emptied-fresh.ensures))

pub returns : goal.returns
unfolding chunks_of
returns c =
    let region_bound : c.args.region ≤ most = c.if-region-gt-MOST.false in
    let capacity-bound : c.args.capacity ≤ most = c.if-capacity-gt-MOST.false in
    let minimum-allowed : allowed_minimum c.args.minimum ≡ true = left-true c.is_allowed_minimum.ensures c.if-not-is_allowed_minimum.false in
    let only = c.with_chunk.ensures ∙ emptied-taken (fresh_head _ _) _ c.emptied-fresh.ensures in
    (λ i. record { answer = Ok tt; arena = only i })
    ∙ sym
    (made_one _ _ _ region_bound capacity-bound minimum-allowed c.if-capacity-eq0.false
    (first-rung _ _ _ _ _ c.take_rung-got.ensures (c.lent.ensures ∙ c.emptied-fresh.ensures) ∙ c.in-Some.is))
