-- The record that each call leaves is sound, and of the region that is lent, as the next one asks.
use borrow.Author.Rules.{rules}
use mathlib.Core.Path.{◌≡◌, sym, ap, ◌∙◌}
use lib.ListN.{length}
use Rattle.arena.specs.declared.Arena.{Arena}
use Rattle.arena.specs.Inner.{lent_of}
use Rattle.arena.specs.Record.{record_of}
use Rattle.cost.proofs.Kept.{Held, still-held}
use Rattle.cost.proofs.inner.turns.Goals as goal

pub second-after-requires : goal.second-after-requires
second-after-requires g c =
    let own : Arena = record_of c.loop-turn.head c.loop-turn.starts c.loop-turn.sizes c.loop-turn.pointers in
    let made : Arena = record_of c.make-head.result c.make-head.new.starts c.make-head.new.sizes c.make-head.new.pointers in
    let held : Held (length c.loop-turn.region) made =
    still-held _ own made _ _ c.make-head.ensures (ap lent_of c.known.ensures) (c.requires.first_keeps _ _ _ c.first-got.ensures) c.loop-turn.invariant in
    let fits : length c.loop-turn.region ≡ c.known-in-loop-turn.result.lent.head.region =
    held.1 ∙ sym (ap (λ l. (lent_of l).head.region) c.known-in-loop-turn.ensures) in
    search (fits, rules)

pub loop-turn-preserved : goal.loop-turn-preserved
loop-turn-preserved g c =
    let own : Arena = record_of c.loop-turn.head c.loop-turn.starts c.loop-turn.sizes c.loop-turn.pointers in
    let made : Arena = record_of c.make-head.result c.make-head.new.starts c.make-head.new.sizes c.make-head.new.pointers in
    let held : Held (length c.loop-turn.region) made =
    still-held _ own made _ _ c.make-head.ensures (ap lent_of c.known.ensures) (c.requires.first_keeps _ _ _ c.first-got.ensures) c.loop-turn.invariant in
    let after = still-held _ made _ _ _ c.make-head-in-loop-turn.ensures (ap lent_of c.known-in-loop-turn.ensures)
    (c.requires.second_keeps _ _ _ _ _ _ c.second-after.ensures) held in
    (after.0, c.second-after.auto.arg3 ∙ after.1)
