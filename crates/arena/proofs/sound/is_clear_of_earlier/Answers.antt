-- `arena::sound::is_clear_of_earlier` meets its contract. The loop's invariant: the chunk is clear of each place passed. The measure is what is left of the
-- places before it. That no sum wraps follows from the chunks' standing in the region. Assumes nothing.
use Prim.Native.Nat.{ℕ, ◌^◌, ◌≤◌, ◌<◌}
use native.Mathlib.Omega.{arith}
use mathlib.Core.List.{List}
use mathlib.Core.Path.{◌≡◌, refl, sym}
use Rattle.rounding.specs.Every.{every}
use Rattle.arena.specs.declared.Head.{Head}
use Rattle.arena.specs.declared.Chunk.{Chunk}
use Rattle.arena.specs.Record.{chunk_at, chunks_of, past_of}
use Rattle.arena.specs.Sound.{clear}
use Rattle.arena.specs.Inner.{Ready}
use Rattle.rounding.proofs.Tests.{taken_false, left-true}
use Rattle.arena.proofs.View.{chunks-at, chunks-fail, chunks_pass}
use Rattle.arena.proofs.Soundness.{inside-ready}
use Rattle.arena.proofs.sound.is_clear_of_earlier.Goals as goal

no_wrap : (h : Head) (starts sizes pointers : List ℕ) → Ready h (chunks_of starts sizes pointers h.count) → (i : ℕ) (c : Chunk) → i < h.count
    → c ≡ chunk_at starts sizes pointers i → past_of c < 2 ^ 64
no_wrap h starts sizes pointers ready i c l e =
    rw e (omega (arith, chunks-at starts sizes pointers (λ d. past_of d ≤ h.region) l ready.inside))

pub loop-j-init : goal.loop-j-init
unfolding every chunks_of
loop-j-init c = (omega arith, refl)

pub chunk_at-c-requires : goal.chunk_at-c-requires
chunk_at-c-requires c = omega (arith, c.requires, (inside-ready c.args.a.now).count_bound)

pub chunk_at-d-requires : goal.chunk_at-d-requires
chunk_at-d-requires c = omega (arith, c.requires, (inside-ready c.args.a.now).count_bound)

pub are_clear-requires : goal.are_clear-requires
are_clear-requires c =
    let fits = no_wrap c.args.a.now.lent.head c.args.a.now.lent.starts.now c.args.a.now.lent.sizes.now c.args.a.now.lent.pointers.now (inside-ready c.args.a.now) in
    (fits _ _ c.requires c.chunk_at-c.ensures, fits _ _ (omega arith) c.chunk_at-d.ensures)

pub returns-then-not-are_clear : goal.returns-then-not-are_clear
returns-then-not-are_clear c =
    let this = c.chunk_at-c in
    let failed = rw c.chunk_at-d.ensures at (taken_false c.are_clear.ensures c.if-not-are_clear.true) in
    rw (← this.ensures)
    (sym (chunks-fail c.args.a.now.lent.starts.now c.args.a.now.lent.sizes.now c.args.a.now.lent.pointers.now (clear this.result) c.loop-j-test.true failed))

pub loop-j-preserved : goal.loop-j-preserved
loop-j-preserved c =
    let loop = c.loop-j in
    let this = c.chunk_at-c in
    let passed = rw c.chunk_at-d.ensures at (left-true c.are_clear.ensures c.if-not-are_clear.false) in
    (omega arith, chunks_pass c.args.a.now.lent.starts.now c.args.a.now.lent.sizes.now c.args.a.now.lent.pointers.now (clear this.result) loop.j passed loop.invariant.1)

pub returns : goal.returns
returns c =
    let all : c.loop-j.j ≡ c.args.i = omega arith in
    rw (← c.chunk_at-c.ensures, ← all) (sym c.loop-j.invariant.1)
