-- `fast::allocate::miravoly_sound_allocate` meets its contract: the current chunk's pointer moves in its place, or else every way is tried. Assumes nothing.
use native.Mathlib.Omega.{arith}
use Rattle.arena.specs.declared.Arena.{Arena}
use Rattle.arena.proofs.Soundness.{sound-open}
use Rattle.calls.specs.Allocate.{allocate_of}
use Rattle.fast.proofs.InParts.{moved-in-parts}
use Rattle.fast.proofs.allocate.miravoly_sound_allocate.Goals as goal

pub offset_bounds-pointers-last : goal.offset_bounds-pointers-last
offset_bounds-pointers-last c = omega (arith, (sound-open _ c.sound_in-sound.result.sound).head.count_bound)

pub bounds-pointers-last : goal.bounds-pointers-last
bounds-pointers-last c = omega (arith, (sound-open _ c.sound_in-sound.result.sound).head.count_bound)

pub returns : goal.returns
returns c =
    let s = c.args in
    let both =
    moved-in-parts (λ (a : Arena). allocate_of a a.head.region s.size s.align) s.head.now s.starts.now s.sizes.now s.pointers.now c.in-Some.p
    c.sound_in-sound.ensures c.requires c.if-count-eq0.false (c.allocate_fast.ensures c.in-Some.p c.in-Some.is) in
    record { value = both.0; pointers_after = both.1 }
