-- `calls::block::is_at_pointer` meets its contract: the current chunk is the first of the held ones. Assumes nothing.
use mathlib.Core.Path.{sym, ◌∙◌, ap}
use Rattle.arena.proofs.Current.{none-current, current-is}
use Rattle.calls.specs.Allocate.{at_pointer}
use Rattle.calls.proofs.block.is_at_pointer.Goals as goal

pub returns-in_default : goal.returns-in_default
unfolding at_pointer
returns-in_default c = sym (ap (λ cs. at_pointer cs c.args.offset) (none-current _ (sym c.current.ensures ∙ c.in_default.is)))

pub returns : goal.returns
unfolding at_pointer
returns c = sym (ap (λ cs. at_pointer cs c.args.offset) (current-is _ (sym c.current.ensures ∙ c.in-Some.is)).newest)
