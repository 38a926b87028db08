-- `fast::copy_in::miravoly_sound_copy_in` meets its contract: the block that was given lies in the region. Assumes nothing.
use Prim.Native.Nat.{ℕ}
use mathlib.Core.Path.{sym, ap, ◌∙◌}
use lib.ListN.{length}
use Rattle.arena.specs.declared.Arena.{Arena}
use Rattle.arena.specs.Refusals.{Allocation}
use Rattle.calls.specs.Allocate.{allocate_of}
use Rattle.calls.specs.Bytes.{written, after_given}
use Rattle.calls.specs.Write.{copy_in_bytes}
use Rattle.calls.proofs.Allocated.{allocated-inside}
use Rattle.calls.proofs.Answering.{bytes-shown}
use Rattle.host.proofs.InPlace.{answered-in-place}
use Rattle.fast.proofs.copy_in.miravoly_sound_copy_in.Goals as goal

pub copy_from-requires : goal.copy_from-requires
copy_from-requires c =
    let s = c.args in
    let whole = answered-in-place c.sound_in-sound.ensures (λ (a : Arena). allocate_of a a.head.region (length s.source.now) s.align) _ c.allocate_placed-got.ensures in
    rw c.requires.1 (allocated-inside _ _ _ _ (sym (ap (λ (o : Allocation). o.answer) whole) ∙ c.in-Ok.is))

pub returns-in-Ok-clause-region_after : goal.returns-in-Ok-clause-region_after
unfolding copy_in_bytes after_given
returns-in-Ok-clause-region_after c =
    let s = c.args in
    let whole = answered-in-place c.sound_in-sound.ensures (λ (a : Arena). allocate_of a a.head.region (length s.source.now) s.align) _ c.allocate_placed-got.ensures in
    rw (c.requires.1, c.copy_from.ensures) (bytes-shown (λ (at : ℕ). written s.region.now at s.source.now) s.region.now whole c.in-Ok.is)

pub returns-in_default-clause-region_after : goal.returns-in_default-clause-region_after
unfolding copy_in_bytes after_given
returns-in_default-clause-region_after c =
    let s = c.args in
    let whole = answered-in-place c.sound_in-sound.ensures (λ (a : Arena). allocate_of a a.head.region (length s.source.now) s.align) _ c.allocate_placed-got.ensures in
    rw c.requires.1 (bytes-shown (λ (at : ℕ). written s.region.now at s.source.now) s.region.now whole c.in_default.is)
