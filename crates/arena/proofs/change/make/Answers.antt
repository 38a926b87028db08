-- `arena::change::make` meets its contract: what it writes makes the change. Assumes nothing.
use native.Mathlib.Omega.{arith}
use Rattle.arena.proofs.Changing.{stays_same, moves-nowhere, moves, adds-nothing, adds, limits, keeps}
use Rattle.arena.proofs.Soundness.{sound-open}
use Rattle.arena.proofs.change.make.Goals as goal

pub returns-then-count-eq0 : goal.returns-then-count-eq0
returns-then-count-eq0 c = moves-nowhere (sound-open _ c.requires) c.in-Moved.is c.if-count-eq0.true

pub offset_bounds-pointers-last : goal.offset_bounds-pointers-last
offset_bounds-pointers-last c = omega (arith, (sound-open _ c.requires).head.count_bound)

pub bounds-pointers-last : goal.bounds-pointers-last
bounds-pointers-last c = omega (arith, (sound-open _ c.requires).head.count_bound)

pub returns-then-count-ge-PLACES : goal.returns-then-count-ge-PLACES
returns-then-count-ge-PLACES c = adds-nothing (sound-open _ c.requires) c.in-Added.is (omega arith)

pub returns-in-Same : goal.returns-in-Same
returns-in-Same c = stays_same (sound-open _ c.requires) c.in-Same.is

pub returns-else-count-eq0 : goal.returns-else-count-eq0
returns-else-count-eq0 c = moves (sound-open _ c.requires) c.in-Moved.is (omega arith)

pub returns-else-count-ge-PLACES : goal.returns-else-count-ge-PLACES
returns-else-count-ge-PLACES c = adds (sound-open _ c.requires) c.in-Added.is (omega arith)

pub returns-in-Limited : goal.returns-in-Limited
returns-in-Limited c = limits (sound-open _ c.requires) c.in-Limited.is

pub returns-in-Kept : goal.returns-in-Kept
returns-in-Kept c = keeps (sound-open _ c.requires) c.in-Kept.is c.keep_current.ensures
