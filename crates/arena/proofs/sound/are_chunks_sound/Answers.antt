-- `arena::sound::are_chunks_sound` meets its contract. The loop's invariant: the chunks passed are sound. The measure is what is left of the count. Assumes nothing.
use native.Mathlib.Omega.{arith}
use mathlib.Core.Path.{◌≡◌, refl, sym}
use Rattle.rounding.specs.Every.{every}
use Rattle.rounding.proofs.Tests.{taken_false, left-true}
use Rattle.arena.specs.Record.{chunks_of}
use Rattle.arena.specs.Sound.{chunk_sound}
use Rattle.arena.proofs.View.{chunks-fail, chunks_pass}
use Rattle.arena.proofs.sound.are_chunks_sound.Goals as goal

pub loop-i-init : goal.loop-i-init
unfolding every chunks_of
loop-i-init c = (omega arith, refl)

pub is_chunk_sound-requires : goal.is_chunk_sound-requires
is_chunk_sound-requires c = c.requires.0

pub returns-then-not-is_chunk_sound : goal.returns-then-not-is_chunk_sound
returns-then-not-is_chunk_sound c =
    let failed = rw c.chunk_at-c.ensures at (taken_false c.is_chunk_sound.ensures c.if-not-is_chunk_sound.true) in
    sym (chunks-fail c.args.a.now.starts.now c.args.a.now.sizes.now c.args.a.now.pointers.now (chunk_sound c.args.a.now.head.region c.args.a.now.head.minimum) c.loop-i-test.true failed)

pub loop-i-preserved : goal.loop-i-preserved
loop-i-preserved c =
    let read = c.chunk_at-c in
    let loop = c.loop-i in
    let this = rw read.ensures at (left-true c.is_chunk_sound.ensures c.if-not-is_chunk_sound.false) in
    (omega arith, chunks_pass c.args.a.now.starts.now c.args.a.now.sizes.now c.args.a.now.pointers.now (chunk_sound c.args.a.now.head.region c.args.a.now.head.minimum) loop.i this loop.invariant.1)

pub returns : goal.returns
returns c =
    let all : c.loop-i.i ≡ c.args.a.now.head.count = omega arith in
    rw (← all) (sym c.loop-i.invariant.1)
