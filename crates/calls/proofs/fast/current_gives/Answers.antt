-- `calls::fast::current_gives` meets its contract: the current chunk is the first of the held ones. Assumes nothing.
use mathlib.Core.Path.{sym, ◌∙◌, ap}
use Rattle.arena.proofs.Current.{none-current, current-is}
use Rattle.calls.specs.Inner.{current_pointer}
use Rattle.rounding.proofs.Powers.{power-one-bit}
use Rattle.arena.proofs.Soundness.{sound-open}
use Rattle.calls.proofs.fast.current_gives.Goals as goal

pub returns-in_err-current : goal.returns-in_err-current
unfolding current_pointer
returns-in_err-current c =
    c.from_residual.ensures
    ∙ sym
    (ap (λ cs. current_pointer c.args.a.now.lent.head.minimum cs c.args.request.layout.size c.args.request.layout.align)
    (none-current _ (sym c.current.ensures ∙ c.in_err-current.was)))

pub chunk_gives-requires : goal.chunk_gives-requires
chunk_gives-requires c =
    let head = (sound-open _ c.args.a.now.sound).head in
    (power-one-bit head.minimum-power, head.minimum-bound)

pub returns : goal.returns
unfolding current_pointer
returns c =
    c.chunk_gives.ensures
    ∙ sym
    (ap (λ cs. current_pointer c.args.a.now.lent.head.minimum cs c.args.request.layout.size c.args.request.layout.align)
    (current-is _ (sym c.current.ensures ∙ c.in_ok-current.was)).newest)
