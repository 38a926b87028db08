-- `arena::lent::Lent::current` meets its contract: the last held place, where there is one, is the current chunk's. Assumes nothing.
use native.Mathlib.Omega.{arith}
use mathlib.Core.Path.{sym, ◌∙◌, ap}
use Rattle.std.specs.Prelude.{Some}
use Rattle.arena.proofs.Current.{current-none-held, current-last}
use Rattle.arena.proofs.lent.Lent.current.Goals as goal

pub returns-then-count-eq0 : goal.returns-then-count-eq0
returns-then-count-eq0 c = sym (current-none-held _ _ _ c.if-count-eq0.true)

pub returns : goal.returns
returns c = ap Some c.chunk_at.ensures ∙ sym (current-last _ _ _ _ (omega arith))
