-- `fast::grow_zeroed::miravoly_sound_grow_zeroed` meets its contract: after a served grow the bytes past the old ones are cleared, and they lie in the region.
-- Assumes nothing.
use Prim.Native.Nat.{ℕ, ◌+◌, ◌-◌}
use native.Mathlib.Omega.{arith}
use mathlib.Core.List.{List}
use mathlib.Core.Path.{sym, ap, ◌∙◌}
use lib.ListN.{length, replicate}
use Rattle.arena.specs.declared.Arena.{Arena}
use Rattle.arena.specs.Refusals.{Allocation}
use Rattle.calls.specs.Bytes.{written, carried, after_given}
use Rattle.calls.specs.Grow.{grow_of, grow_bytes, grow_zeroed_bytes}
use Rattle.calls.proofs.Answering.{bytes-shown}
use Rattle.calls.proofs.Changing.{grow-served}
use Rattle.host.proofs.InPlace.{answered-in-place}
use Rattle.fast.proofs.grow_zeroed.miravoly_sound_grow_zeroed.Goals as goal

-- what carrying makes of the bytes, and then clearing
abbrev moved : List ℕ → ℕ → ℕ → ℕ → List ℕ
moved bytes offset old to = carried bytes offset to old

abbrev cleared : List ℕ → ℕ → ℕ → ℕ → ℕ → List ℕ
cleared bytes offset old new to = written (carried bytes offset to old) (to + old) (replicate (new - old) 0)

pub returns-in_default-clause-region_after : goal.returns-in_default-clause-region_after
unfolding grow_bytes grow_zeroed_bytes after_given
returns-in_default-clause-region_after c =
    let s = c.args in
    let e = answered-in-place c.sound_in-sound.ensures (λ (a : Arena). grow_of a (length s.region.now) s.offset s.old s.old_align s.new s.new_align) _ c.grow_placed-got.ensures.placed_by in
    let grown = c.grow_placed-got.ensures.region_after ∙ ap (λ (a : Arena). grow_bytes a s.region.now s.offset s.old s.old_align s.new s.new_align) c.sound_in-sound.ensures in
    grown
    ∙ sym (bytes-shown (moved s.region.now s.offset s.old) s.region.now e c.in_default.is)
    ∙ bytes-shown (cleared s.region.now s.offset s.old s.new) s.region.now e c.in_default.is

pub overflow_add-to : goal.overflow_add-to
overflow_add-to c =
    let s = c.args in
    let e = answered-in-place c.sound_in-sound.ensures (λ (a : Arena). grow_of a (length s.region.now) s.offset s.old s.old_align s.new s.new_align) _ c.grow_placed-got.ensures.placed_by in
    let served = grow-served _ _ _ _ _ _ _ (sym (ap (λ (o : Allocation). o.answer) e) ∙ c.in-Ok.is) in
    omega (arith, served.0.room, served.1)

pub overflow_sub-new : goal.overflow_sub-new
overflow_sub-new c =
    let s = c.args in
    let e = answered-in-place c.sound_in-sound.ensures (λ (a : Arena). grow_of a (length s.region.now) s.offset s.old s.old_align s.new s.new_align) _ c.grow_placed-got.ensures.placed_by in
    let served = grow-served _ _ _ _ _ _ _ (sym (ap (λ (o : Allocation). o.answer) e) ∙ c.in-Ok.is) in
    served.1

pub fill-requires : goal.fill-requires
fill-requires c =
    let s = c.args in
    let e = answered-in-place c.sound_in-sound.ensures (λ (a : Arena). grow_of a (length s.region.now) s.offset s.old s.old_align s.new s.new_align) _ c.grow_placed-got.ensures.placed_by in
    let served = grow-served _ _ _ _ _ _ _ (sym (ap (λ (o : Allocation). o.answer) e) ∙ c.in-Ok.is) in
    omega (arith, served.0.room, served.1, c.grow_placed-got.auto.region)

pub returns-in-Ok-clause-region_after : goal.returns-in-Ok-clause-region_after
unfolding grow_bytes grow_zeroed_bytes after_given
returns-in-Ok-clause-region_after c =
    let s = c.args in
    let e = answered-in-place c.sound_in-sound.ensures (λ (a : Arena). grow_of a (length s.region.now) s.offset s.old s.old_align s.new s.new_align) _ c.grow_placed-got.ensures.placed_by in
    let grown = c.grow_placed-got.ensures.region_after ∙ ap (λ (a : Arena). grow_bytes a s.region.now s.offset s.old s.old_align s.new s.new_align) c.sound_in-sound.ensures in
    c.fill.ensures
    ∙ ap (λ (bytes : List ℕ). written bytes (c.in-Ok.to + s.old) (replicate (s.new - s.old) 0))
    (grown ∙ sym (bytes-shown (moved s.region.now s.offset s.old) s.region.now e c.in-Ok.is))
    ∙ bytes-shown (cleared s.region.now s.offset s.old s.new) s.region.now e c.in-Ok.is
