-- `arena::placing::past_chunks` meets its contract. The invariant says of the chunks gone through what the contract says of all. Of a multiple
-- between, either the chunks gone through already stood in its way, or the chunk now passed does. Assumes nothing.
use Prim.Native.Nat.{ℕ, ◌+◌, ◌≤◌, ◌<◌, ◌∣◌}
use native.Mathlib.Nat.{le_refl}
use native.Mathlib.Numerals.{add-one}
use native.Mathlib.Omega.{arith}
use mathlib.Core.Bool.{true, false}
use mathlib.Core.List.{List, [], ◌∷◌}
use mathlib.Core.Logic.{inl, inr, ⊎_elim}
use mathlib.Core.Path.{◌≡◌, refl, sym, ◌∙◌}
use Rattle.rounding.specs.Every.{every}
use Rattle.rounding.specs.Round.{round_up}
use Rattle.rounding.proofs.Rounding.{up_multiple, up-at-least, up-near, up_least}
use Rattle.rounding.proofs.Tests.{true-false, refute, and_left, and_right, and_both}
use Rattle.arena.specs.declared.Chunk.{Chunk}
use Rattle.arena.specs.Record.{past_of, chunks_of}
use Rattle.arena.specs.Placing.{misses}
use Rattle.arena.specs.Inner.{Passed}
use Rattle.arena.proofs.View.{chunks-at}
use Rattle.arena.proofs.Lowest.{misses-open, misses-shut}
use Rattle.arena.proofs.Soundness.{inside-ready}
use Rattle.arena.proofs.placing.past_chunks.Goals as goal
use Rattle.arena.proofs.placing.past_chunks.Goals.{then-not-is_clear_of, else-not-is_clear_of}

none_passed : {align from : ℕ} (length : ℕ) → align ∣ from → Passed [] align length from from
unfolding every
none_passed {align} {from} length d =
    record { multiple = d; onward = le_refl from; between = λ x m l g. absurd (omega arith); stays = λ e. refl }

module _ {cs : List Chunk} {align length from at : ℕ} (c : Chunk) (p : Passed cs align length from at) where
  clear-one : (x : ℕ) → every (misses x length) (c ∷ cs) ≡ true → misses x length c ≡ true
  unfolding every
  clear-one x = and_left (misses x length c) (every (misses x length) cs)

  clear-rest : (x : ℕ) → every (misses x length) (c ∷ cs) ≡ true → every (misses x length) cs ≡ true
  unfolding every
  clear-rest x = and_right (misses x length c) (every (misses x length) cs)

  stood-clear : misses at length c ≡ true → Passed (c ∷ cs) align length from at
  unfolding every
  stood-clear t =
      record {
        multiple = p.multiple;
        onward = p.onward;
        between = λ x m l g. refute (every (misses x length) (c ∷ cs)) (λ clear. true-false (clear-rest x clear) (p.between x m l g));
        stays = λ e. and_both (rw e at t) (p.stays e);
      }

  stood-in-way : 0 < align → misses at length c ≡ false → Passed (c ∷ cs) align length from (round_up (past_of c) align)
  stood-in-way positive t =
      let not-before : ¬ (at + length ≤ c.start) = λ l. true-false (misses-shut at length c (inl l)) t in
      let not-past : ¬ (past_of c ≤ at) = λ l. true-false (misses-shut at length c (inr l)) t in
      let beyond = up-at-least (past_of c) align positive in
      record {
        multiple = up_multiple (past_of c) align;
        onward = omega (arith, p.onward);
        between = λ x m l g. refute (every (misses x length) (c ∷ cs)) (λ clear.
            ⊎_elim (λ before. true-false (clear-rest x clear) (p.between x m l (omega arith)))
            (λ past. omega (arith, up_least (past_of c) align m past))
            (misses-open x length c (clear-one x clear)));
        stays = λ e. absurd (omega (arith, p.onward));
      }

pub loop-i-init : goal.loop-i-init
unfolding chunks_of
loop-i-init c = (omega arith, omega (arith, (inside-ready c.args.a.now).region_bound), none_passed c.args.length c.requires.2)

pub chunk_at-c-requires : goal.chunk_at-c-requires
chunk_at-c-requires c = omega (arith, (inside-ready c.args.a.now).count_bound)

pub is_clear_of-requires : goal.is_clear_of-requires
is_clear_of-requires c =
    let chunk_inside : past_of c.chunk_at-c.result ≤ c.args.a.now.lent.head.region = rw c.chunk_at-c.ensures
    (chunks-at c.args.a.now.lent.starts.now c.args.a.now.lent.sizes.now c.args.a.now.lent.pointers.now (λ d. past_of d ≤ c.args.a.now.lent.head.region) c.loop-i-test.true (inside-ready c.args.a.now).inside) in
    omega (arith, chunk_inside, (inside-ready c.args.a.now).region_bound)

pub overflow_add-c : goal.overflow_add-c
overflow_add-c c =
    let chunk_inside : past_of c.chunk_at-c.result ≤ c.args.a.now.lent.head.region = rw c.chunk_at-c.ensures
    (chunks-at c.args.a.now.lent.starts.now c.args.a.now.lent.sizes.now c.args.a.now.lent.pointers.now (λ d. past_of d ≤ c.args.a.now.lent.head.region) c.loop-i-test.true (inside-ready c.args.a.now).inside) in
    omega (arith, chunk_inside, (inside-ready c.args.a.now).region_bound)

pub overflow_add-c-then-not-is_clear_of : goal.overflow_add-c-then-not-is_clear_of
overflow_add-c-then-not-is_clear_of c =
    let chunk_inside : past_of c.chunk_at-c.result ≤ c.args.a.now.lent.head.region = rw c.chunk_at-c.ensures
    (chunks-at c.args.a.now.lent.starts.now c.args.a.now.lent.sizes.now c.args.a.now.lent.pointers.now (λ d. past_of d ≤ c.args.a.now.lent.head.region) c.loop-i-test.true (inside-ready c.args.a.now).inside) in
    omega (arith, chunk_inside, (inside-ready c.args.a.now).region_bound)

pub round_up_to-at-requires : goal.round_up_to-at-requires
round_up_to-at-requires c =
    let chunk_inside : past_of c.chunk_at-c.result ≤ c.args.a.now.lent.head.region = rw c.chunk_at-c.ensures
    (chunks-at c.args.a.now.lent.starts.now c.args.a.now.lent.sizes.now c.args.a.now.lent.pointers.now (λ d. past_of d ≤ c.args.a.now.lent.head.region) c.loop-i-test.true (inside-ready c.args.a.now).inside) in
    omega (arith, chunk_inside, (inside-ready c.args.a.now).region_bound)

pub loop-i-preserved : goal.loop-i-preserved
unfolding chunks_of
loop-i-preserved c =
    let chunk_inside : past_of c.chunk_at-c.result ≤ c.args.a.now.lent.head.region = rw c.chunk_at-c.ensures
    (chunks-at c.args.a.now.lent.starts.now c.args.a.now.lent.sizes.now c.args.a.now.lent.pointers.now (λ d. past_of d ≤ c.args.a.now.lent.head.region) c.loop-i-test.true (inside-ready c.args.a.now).inside) in
    let here = sym c.chunk_at-c.ensures in
    let passing = c.loop-i.invariant.2 in
    let chunk = c.chunk_at-c.result in
    let tested = sym c.is_clear_of.ensures in
    let inside = chunk_inside in
    let region_bound = (inside-ready c.args.a.now).region_bound in
    let near = up-near (past_of chunk) c.args.align (omega arith) in
    elim c.if-not-is_clear_of.branch [
      | then-not-is_clear_of w ↦ rw (add-one, here, w.at-is ∙ w.round_up_to-at.ensures) (omega arith, omega arith, stood-in-way chunk passing (omega arith) (tested ∙ w.if-not-is_clear_of.true))
      | else-not-is_clear_of w ↦ rw (add-one, here, w.at-is) (omega arith, omega arith, stood-clear chunk passing (tested ∙ w.if-not-is_clear_of.false))
    ]

pub returns : goal.returns
returns c =
    let done : c.loop-i.i ≡ c.args.a.now.lent.head.count = omega arith in
    rw done at c.loop-i.invariant.2
