-- `calls::allocate::allocate_placed` meets its contract: the fast part's pointer, or else the whole call. Assumes nothing.
use Rattle.calls.proofs.allocate.allocate_placed.Goals as goal

pub returns-in_default : goal.returns-in_default
returns-in_default c = c.allocate_in_full.ensures

pub returns : goal.returns
returns c = rw c.moved.ensures (c.allocate_fast.ensures _ c.in-Some.is)
