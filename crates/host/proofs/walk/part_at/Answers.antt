-- `host::walk::part_at` meets its contract: the part that the step tells lies in the region, and stands where the step says.
-- Assumes nothing.
use Prim.Native.Nat.{◌+◌, ◌-◌, ◌≤◌}
use native.Mathlib.Omega.{arith}
use mathlib.Core.Path.{◌≡◌, sym, ◌∙◌, ap, subst}
use lib.ListN.{length}
use Rattle.calls.specs.Bytes.{part, stands_at}
use Rattle.host.specs.declared.SaidStep.{SaidStep}
use Rattle.host.specs.Walk.{step_part}
use Rattle.host.proofs.Walking.{step-inside}
use Rattle.host.proofs.walk.part_at.Goals as goal

pub overflow_add-end : goal.overflow_add-end
overflow_add-end c =
    let inside : c.step_in-step.result.offset + c.step_in-step.result.length ≤ length c.args.region.now = let s = c.args in
    subst (λ (t : SaidStep). t.offset + t.length ≤ length s.region.now) (sym c.step_in-step.ensures)
    (step-inside s.a (length s.region.now) s.index) in
    omega (arith, inside)

pub slice_bounds-result-end : goal.slice_bounds-result-end
slice_bounds-result-end c =
    let inside : c.step_in-step.result.offset + c.step_in-step.result.length ≤ length c.args.region.now = let s = c.args in
    subst (λ (t : SaidStep). t.offset + t.length ≤ length s.region.now) (sym c.step_in-step.ensures)
    (step-inside s.a (length s.region.now) s.index) in
    omega (arith, inside)

pub returns : goal.returns
returns c =
    let s = c.args in
    let t = c.step_in-step.result in
    let long : t.offset + t.length - t.offset ≡ t.length = omega arith in (
      ap (part s.region.now t.offset) long ∙ ap (step_part s.region.now) c.step_in-step.ensures,
      ap (λ (u : SaidStep). stands_at s.region.ref_ptr u.offset) c.step_in-step.ensures,
    )
