-- `calls::block::is_acceptable` meets its contract. The invariant: some held chunk has the block exactly where some of the chunks left has it, so the
-- chunk at hand settles it or leaves it to the rest. Assumes nothing.
use Prim.Native.Nat.{ℕ, ◌≤◌, ◌-◌}
use native.Mathlib.Omega.{arith}
use mathlib.Core.Path.{◌≡◌, refl, sym, ◌∙◌, ap}
use mathlib.Core.List.{◌∷◌}
use Rattle.rounding.specs.Every.{any}
use Rattle.rounding.proofs.Tests.{taken_false, left-true}
use Rattle.arena.specs.declared.Chunk.{Chunk}
use Rattle.arena.specs.Record.{chunks_of, past_of}
use Rattle.arena.proofs.Soundness.{inside-ready}
use Rattle.arena.proofs.View.{chunks-newest, chunks-at}
use Rattle.calls.specs.Tests.{has_block, acceptable}
use Rattle.calls.proofs.Some.{any-now, any-later, any_none}
use Rattle.calls.proofs.block.is_acceptable.Goals as goal
use Rattle.arena.specs.Inner.{lent_of}
use Rattle.arena.specs.Record.{held_of}

pub is_multiple_of_power-requires : goal.is_multiple_of_power-requires
is_multiple_of_power-requires c = c.requires

pub returns-then-not-is_multiple_of_power : goal.returns-then-not-is_multiple_of_power
unfolding acceptable
returns-then-not-is_multiple_of_power c = rw (taken_false c.is_multiple_of_power.ensures c.if-not-is_multiple_of_power.true)

pub loop-left-init : goal.loop-left-init
loop-left-init c = (omega arith, refl)

pub chunk_at-c-requires : goal.chunk_at-c-requires
chunk_at-c-requires c = omega (arith, (inside-ready c.args.a.now).count_bound)

pub has_block-requires : goal.has_block-requires
has_block-requires c =
    let ready = inside-ready c.args.a.now in
    let within = chunks-at c.args.a.now.lent.starts.now c.args.a.now.lent.sizes.now c.args.a.now.lent.pointers.now (λ d. past_of d ≤ c.args.a.now.lent.head.region) {i = c.loop-left.left - 1} {k = c.args.a.now.lent.head.count} (omega arith) ready.inside in
    rw c.chunk_at-c.ensures (omega (arith, within, ready.region_bound))

pub returns-then-has_block : goal.returns-then-has_block
unfolding acceptable
returns-then-has_block c =
    let at-hand : (let chunks = chunks_of c.args.a.now.lent.starts.now c.args.a.now.lent.sizes.now c.args.a.now.lent.pointers.now in chunks c.loop-left.left ≡ c.chunk_at-c.result ∷ chunks (c.loop-left.left - 1)) = let chunks = chunks_of c.args.a.now.lent.starts.now c.args.a.now.lent.sizes.now c.args.a.now.lent.pointers.now in
    chunks-newest c.args.a.now.lent.starts.now c.args.a.now.lent.sizes.now c.args.a.now.lent.pointers.now c.loop-left.left c.loop-left-test.true
    ∙ ap (λ (d : Chunk). d ∷ chunks (c.loop-left.left - 1)) (sym c.chunk_at-c.ensures) in
    let asked : (let cs = held_of (lent_of c.args.a.now.lent) in acceptable cs c.args.block.offset c.args.block.layout.size c.args.block.layout.align ≡ any (has_block c.args.block.offset c.args.block.layout.size) cs) = rw (left-true c.is_multiple_of_power.ensures c.if-not-is_multiple_of_power.false) in
    let test = has_block c.args.block.offset c.args.block.layout.size in
    sym
    (asked
    ∙ c.loop-left.invariant.1
    ∙ ap (any test) at-hand
    ∙ any-now test c.chunk_at-c.result _ (sym c.has_block.ensures ∙ c.if-has_block.true))

pub loop-left-preserved : goal.loop-left-preserved
loop-left-preserved c =
    let at-hand : (let chunks = chunks_of c.args.a.now.lent.starts.now c.args.a.now.lent.sizes.now c.args.a.now.lent.pointers.now in chunks c.loop-left.left ≡ c.chunk_at-c.result ∷ chunks (c.loop-left.left - 1)) = let chunks = chunks_of c.args.a.now.lent.starts.now c.args.a.now.lent.sizes.now c.args.a.now.lent.pointers.now in
    chunks-newest c.args.a.now.lent.starts.now c.args.a.now.lent.sizes.now c.args.a.now.lent.pointers.now c.loop-left.left c.loop-left-test.true
    ∙ ap (λ (d : Chunk). d ∷ chunks (c.loop-left.left - 1)) (sym c.chunk_at-c.ensures) in
    let test = has_block c.args.block.offset c.args.block.layout.size in (
      omega arith,
      c.loop-left.invariant.1
          ∙ ap (any test) at-hand
          ∙ any-later test c.chunk_at-c.result _ (sym c.has_block.ensures ∙ c.if-has_block.false),
    )

pub returns : goal.returns
unfolding chunks_of acceptable
returns c =
    let asked : (let cs = held_of (lent_of c.args.a.now.lent) in acceptable cs c.args.block.offset c.args.block.layout.size c.args.block.layout.align ≡ any (has_block c.args.block.offset c.args.block.layout.size) cs) = rw (left-true c.is_multiple_of_power.ensures c.if-not-is_multiple_of_power.false) in
    let none_left : c.loop-left.left ≡ 0 = omega arith in
    sym
    (asked
    ∙ c.loop-left.invariant.1
    ∙ ap (λ (k : ℕ). any (has_block c.args.block.offset c.args.block.layout.size) (chunks_of c.args.a.now.lent.starts.now c.args.a.now.lent.sizes.now c.args.a.now.lent.pointers.now k)) none_left
    ∙ any_none (has_block c.args.block.offset c.args.block.layout.size))
