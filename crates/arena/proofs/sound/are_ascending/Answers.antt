-- `arena::sound::are_ascending` meets its contract. The invariant: the held chunks ascend exactly where those left ascend below the top, so the chunk at hand ends it
-- or leaves it to the rest. The measure is what is left. Assumes nothing.
use Prim.Native.Nat.{ℕ, ◌-◌}
use native.Mathlib.Omega.{arith}
use mathlib.Core.Bool.{Bool, true, false, ◌&&◌}
use mathlib.Core.List.{List, ◌∷◌}
use mathlib.Core.Path.{◌≡◌, refl, sym, ◌∙◌, ap}
use Rattle.rounding.proofs.Tests.{taken_false, left-true}
use Rattle.arena.specs.declared.Chunk.{Chunk}
use Rattle.arena.specs.Record.{chunks_of}
use Rattle.arena.specs.Sound.{chunk_sound}
use Rattle.arena.specs.Inner.{ascending}
use Rattle.arena.proofs.View.{chunks-newest}
use Rattle.arena.proofs.sound.are_ascending.Goals as goal

-- a chunk that is not sound below the top ends the ascent, and any other leaves it to the rest
module _ (top minimum : ℕ) (c : Chunk) (cs : List Chunk) where
  ends : chunk_sound top minimum c ≡ false → ascending top minimum (c ∷ cs) ≡ false
  unfolding ascending
  ends f = ap (λ (b : Bool). b && ascending c.start minimum cs) f

  goes_on : chunk_sound top minimum c ≡ true → ascending top minimum (c ∷ cs) ≡ ascending c.start minimum cs
  unfolding ascending
  goes_on t = ap (λ (b : Bool). b && ascending c.start minimum cs) t

pub loop-left-init : goal.loop-left-init
loop-left-init c = (omega arith, refl)

pub is_chunk_sound-requires : goal.is_chunk_sound-requires
is_chunk_sound-requires c = c.requires.0

pub returns-then-not-is_chunk_sound : goal.returns-then-not-is_chunk_sound
returns-then-not-is_chunk_sound c =
    let at-hand : (let chunks = chunks_of c.args.a.now.starts.now c.args.a.now.sizes.now c.args.a.now.pointers.now in chunks c.loop-left.left ≡ c.chunk_at-c.result ∷ chunks (c.loop-left.left - 1)) = let chunks = chunks_of c.args.a.now.starts.now c.args.a.now.sizes.now c.args.a.now.pointers.now in
    chunks-newest c.args.a.now.starts.now c.args.a.now.sizes.now c.args.a.now.pointers.now c.loop-left.left c.loop-left-test.true
    ∙ ap (λ (d : Chunk). d ∷ chunks (c.loop-left.left - 1)) (sym c.chunk_at-c.ensures) in
    let m = c.args.a.now.head.minimum in
    sym
    (c.loop-left.invariant.1
    ∙ ap (ascending c.loop-left.top m) at-hand
    ∙ ends c.loop-left.top m c.chunk_at-c.result _ (taken_false c.is_chunk_sound.ensures c.if-not-is_chunk_sound.true))

pub loop-left-preserved : goal.loop-left-preserved
loop-left-preserved c =
    let at-hand : (let chunks = chunks_of c.args.a.now.starts.now c.args.a.now.sizes.now c.args.a.now.pointers.now in chunks c.loop-left.left ≡ c.chunk_at-c.result ∷ chunks (c.loop-left.left - 1)) = let chunks = chunks_of c.args.a.now.starts.now c.args.a.now.sizes.now c.args.a.now.pointers.now in
    chunks-newest c.args.a.now.starts.now c.args.a.now.sizes.now c.args.a.now.pointers.now c.loop-left.left c.loop-left-test.true
    ∙ ap (λ (d : Chunk). d ∷ chunks (c.loop-left.left - 1)) (sym c.chunk_at-c.ensures) in
    let m = c.args.a.now.head.minimum in (
      omega arith,
      c.loop-left.invariant.1
          ∙ ap (ascending c.loop-left.top m) at-hand
          ∙ goes_on c.loop-left.top m c.chunk_at-c.result _ (left-true c.is_chunk_sound.ensures c.if-not-is_chunk_sound.false),
    )

pub returns : goal.returns
unfolding ascending chunks_of
returns c =
    let none_left : c.loop-left.left ≡ 0 = omega arith in
    sym
    (c.loop-left.invariant.1
    ∙ ap (λ (k : ℕ). ascending c.loop-left.top c.args.a.now.head.minimum (chunks_of c.args.a.now.starts.now c.args.a.now.sizes.now c.args.a.now.pointers.now k)) none_left)
