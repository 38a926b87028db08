-- `arena::ladder::is_under_limit` meets its contract: each way out is one clause of the definition. Assumes nothing.
use mathlib.Core.Path.{sym}
use native.Mathlib.Omega.{arith}
use Rattle.arena.proofs.Rungs.{under-unlimited, under-passed, under_left}
use Rattle.arena.proofs.ladder.is_under_limit.Goals as goal

pub returns-then-h-ne1 : goal.returns-then-h-ne1
returns-then-h-ne1 c = sym (under-unlimited _ _ _ c.if-h-ne1.true)

pub returns-then-h-held : goal.returns-then-h-held
returns-then-h-held c = sym (under-passed _ _ _ (omega arith) (omega arith))

pub returns : goal.returns
returns c = sym (under_left _ _ _ (omega arith) (omega arith))
