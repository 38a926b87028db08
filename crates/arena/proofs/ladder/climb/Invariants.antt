-- `arena::ladder::climb` meets its contract. The invariant: the base is what some halvings of the first come to, and nothing before it is
-- served. Each way out settles the ladder from there. Assumes nothing.
use Rattle.arena.specs.Record.{chunks_of}
use Rattle.arena.proofs.Rungs.{Climbed}
use Rattle.arena.proofs.ladder.climb.Given as goal

abbrev pub invariant-loop-request : goal.invariant-loop-request
invariant-loop-request l = Climbed l.a.lent.head (chunks_of l.a.lent.starts.now l.a.lent.sizes.now l.a.lent.pointers.now l.a.lent.head.count) l.request.layout.size l.request.layout.align l.base

abbrev pub decreases-loop-request : goal.decreases-loop-request
decreases-loop-request l = l.base
