-- `arena::ladder::held_bytes` meets its contract. The invariant: what is counted is held in the places passed. Assumes nothing.
use Prim.Native.Nat.{ℕ, ◌≤◌, ◌<◌, zero-le}
use native.Mathlib.Numerals.{add-one}
use native.Mathlib.Omega.{arith}
use mathlib.Core.List.{List}
use mathlib.Core.Path.{◌≡◌, refl, sym, subst}
use Rattle.arena.specs.declared.Head.{Head}
use Rattle.arena.specs.declared.Chunk.{Chunk}
use Rattle.arena.specs.Record.{past_of, chunk_at, chunks_of}
use Rattle.arena.specs.Ladder.{held_bytes}
use Rattle.arena.specs.Numbers.{most}
use Rattle.arena.specs.Inner.{Ready}
use Rattle.arena.proofs.View.{chunks-at}
use Rattle.arena.proofs.Rungs.{held_more}
use Rattle.arena.proofs.Soundness.{inside-ready}
use Rattle.arena.proofs.ladder.held_bytes.Goals as goal

-- a held chunk is no longer than the largest region
size-within : {h : Head} (starts sizes pointers : List ℕ) {i : ℕ} {c : Chunk} → Ready h (chunks_of starts sizes pointers h.count) → i < h.count
    → c ≡ chunk_at starts sizes pointers i → c.size ≤ most
size-within {h} starts sizes pointers {i} ready l e =
    let here = chunks-at starts sizes pointers (λ d. past_of d ≤ h.region) {i = i} l ready.inside in
    subst (λ (d : Chunk). d.size ≤ most) (sym e) (omega (arith, here, ready.region_bound))

pub loop-i-init : goal.loop-i-init
unfolding held_bytes chunks_of
loop-i-init c = (zero-le, refl, zero-le)

pub chunk_at-held-requires : goal.chunk_at-held-requires
chunk_at-held-requires c = omega (arith, (inside-ready c.args.a.now).count_bound)

pub overflow_add-held : goal.overflow_add-held
overflow_add-held c =
    omega (arith, size-within _ _ _ (inside-ready c.args.a.now) c.loop-i-test.true c.chunk_at-held.ensures, (inside-ready c.args.a.now).count_bound)

pub loop-i-preserved : goal.loop-i-preserved
loop-i-preserved c =
    let i = c.loop-i.i in
    let one_more = held_more c.args.a.now.lent.starts.now c.args.a.now.lent.sizes.now c.args.a.now.lent.pointers.now i in
    let here = size-within _ _ _ (inside-ready c.args.a.now) c.loop-i-test.true c.chunk_at-held.ensures in
    (omega arith, rw (add-one, one_more, c.chunk_at-held.ensures) (omega arith), omega (arith, here))

pub returns : goal.returns
returns c =
    let whole : c.loop-i.i ≡ c.args.a.now.lent.head.count = omega arith in
    rw (← whole) c.loop-i.invariant.1
