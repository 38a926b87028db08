-- `takeback::tokens::rewind` meets its contract: with no chunk or the block elsewhere the record stays, else the current pointer moves.
-- Assumes nothing.
use native.Mathlib.Omega.{arith}
use mathlib.Core.Path.{sym, ◌∙◌, ap}
use Rattle.arena.specs.Record.{holding}
use Rattle.arena.specs.Inner.{changed_by}
use Rattle.arena.proofs.Current.{none-current, current-is}
use Rattle.arena.proofs.Soundness.{sound-open}
use Rattle.arena.proofs.View.{length-chunks, holding-held}
use Rattle.calls.proofs.Reading.{current-end}
use Rattle.calls.proofs.Cancelling.{rewound-none, rewound-elsewhere, rewound-recorded, rewound-end}
use Rattle.takeback.proofs.tokens.rewind.Goals as goal

pub returns-in_default : goal.returns-in_default
unfolding changed_by
returns-in_default c =
    let held = holding-held (sound-open _ c.args.a.now.sound) in
    sym (ap (holding _) (rewound-none _ _ (none-current _ (sym c.current.ensures ∙ c.in_default.is))) ∙ held)

pub returns-then-offset-c : goal.returns-then-offset-c
unfolding changed_by
returns-then-offset-c c =
    let held = holding-held (sound-open _ c.args.a.now.sound) in
    let now = current-is _ (sym c.current.ensures ∙ c.in-Some.is) in
    sym (ap (holding _) (rewound-elsewhere _ _ now.newest c.if-offset-c.true) ∙ held)

pub returns-then-token-a : goal.returns-then-token-a
unfolding changed_by
returns-then-token-a c =
    let a = c.args.a.now.lent in
    let now = current-is _ (sym c.current.ensures ∙ c.in-Some.is) in
    let counted = length-chunks a.starts.now a.sizes.now a.pointers.now a.head.count in
    sym (ap (holding _) (rewound-recorded _ _ now.newest c.if-offset-c.false (c.if-token-a.true ∙ sym counted)))

pub overflow_add-result : goal.overflow_add-result
overflow_add-result c = omega (arith, current-end (sound-open _ c.args.a.now.sound) (current-is _ (sym c.current.ensures ∙ c.in-Some.is)))

pub returns : goal.returns
unfolding changed_by
returns c =
    let a = c.args.a.now.lent in
    let now = current-is _ (sym c.current.ensures ∙ c.in-Some.is) in
    let counted = length-chunks a.starts.now a.sizes.now a.pointers.now a.head.count in
    sym (ap (holding _) (rewound-end _ _ now.newest c.if-offset-c.false (λ q. c.if-token-a.false (q ∙ counted))))
