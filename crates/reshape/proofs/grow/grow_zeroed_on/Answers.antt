-- `reshape::grow::grow_zeroed_on` meets its contract: after a served grow the bytes past the old ones are cleared, and they lie in the region.
-- Assumes nothing.
use Prim.Native.Nat.{ℕ, ◌+◌, ◌-◌}
use native.Mathlib.Omega.{arith}
use mathlib.Core.List.{List}
use mathlib.Core.Path.{sym, ◌∙◌, ap}
use lib.ListN.{length, replicate}
use Rattle.calls.specs.Bytes.{written, after_given}
use Rattle.calls.specs.Grow.{grow_bytes, grow_zeroed_bytes}
use Rattle.calls.proofs.Changing.{grow-served}
use Rattle.reshape.proofs.grow.grow_zeroed_on.Goals as goal

pub returns-in_err-to-clause-region_after : goal.returns-in_err-to-clause-region_after
unfolding grow_bytes grow_zeroed_bytes after_given
returns-in_err-to-clause-region_after c =
    let e = sym c.grow_on.ensures.value ∙ c.in_err-to.was in
    rw e (rw e at c.grow_on.ensures.region_after)

pub overflow_add-to : goal.overflow_add-to
overflow_add-to c =
    let s = c.args in
    let served = grow-served s.a.now (length s.region.now) s.offset s.old s.old_align s.new s.new_align (sym c.grow_on.ensures.value ∙ c.in_ok-to.was) in
    omega (arith, served.0.room, served.1)

pub overflow_sub-new : goal.overflow_sub-new
overflow_sub-new c =
    let s = c.args in
    (grow-served s.a.now (length s.region.now) s.offset s.old s.old_align s.new s.new_align (sym c.grow_on.ensures.value ∙ c.in_ok-to.was)).1

pub fill-requires : goal.fill-requires
fill-requires c =
    let s = c.args in
    let served = grow-served s.a.now (length s.region.now) s.offset s.old s.old_align s.new s.new_align (sym c.grow_on.ensures.value ∙ c.in_ok-to.was) in
    omega (arith, served.0.room, served.1, c.grow_on.auto.region)

pub returns-clause-region_after : goal.returns-clause-region_after
unfolding grow_bytes grow_zeroed_bytes after_given
returns-clause-region_after c =
    let s = c.args in
    let e = sym c.grow_on.ensures.value ∙ c.in_ok-to.was in
    let grown = rw e at c.grow_on.ensures.region_after in
    rw e (c.fill.ensures ∙ ap (λ (bytes : List ℕ). written bytes (c.in_ok-to.to + s.old) (replicate (s.new - s.old) 0)) grown)
