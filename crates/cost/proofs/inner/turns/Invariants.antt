-- The record stays sound, and of the region that is lent.
use lib.ListN.{length}
use Rattle.arena.specs.Record.{record_of}
use Rattle.cost.proofs.Kept.{Held}
use Rattle.cost.proofs.inner.turns.Given as goal

abbrev pub invariant-loop-turn : goal.invariant-loop-turn
invariant-loop-turn g l = Held (length l.region) (record_of l.head l.starts l.sizes l.pointers)
