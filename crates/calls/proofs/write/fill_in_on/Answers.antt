-- `calls::write::fill_in_on` meets its contract: the block that is given lies in the region, and is written. Assumes nothing.
use mathlib.Core.Path.{refl, sym, ◌∙◌}
use Rattle.calls.specs.Bytes.{after_given}
use Rattle.calls.specs.Write.{fill_bytes}
use Rattle.calls.proofs.Allocated.{allocated-inside}
use Rattle.calls.proofs.write.fill_in_on.Goals as goal

pub returns-in_err-offset-clause-region_after : goal.returns-in_err-offset-clause-region_after
unfolding fill_bytes after_given
returns-in_err-offset-clause-region_after c = rw (sym c.allocate_on.ensures.value ∙ c.in_err-offset.was) refl

pub fill-requires : goal.fill-requires
fill-requires c = allocated-inside _ _ _ _ (sym c.allocate_on.ensures.value ∙ c.in_ok-offset.was)

pub returns-clause-region_after : goal.returns-clause-region_after
unfolding fill_bytes after_given
returns-clause-region_after c = rw (sym c.allocate_on.ensures.value ∙ c.in_ok-offset.was) c.fill.ensures
