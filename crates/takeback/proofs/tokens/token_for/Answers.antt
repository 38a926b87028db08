-- `takeback::tokens::token_for` meets its contract: the current chunk, where there is one, has the current pointer. Assumes nothing.
use Prim.Native.Nat.{ℕ}
use mathlib.Core.Path.{sym, ◌∙◌, ap}
use lib.ListN.{length}
use Rattle.arena.proofs.Current.{none-current, current-is}
use Rattle.arena.proofs.View.{length-chunks}
use Rattle.calls.specs.Token.{token_of, token_for}
use Rattle.calls.proofs.Cancelling.{no-token}
use Rattle.takeback.proofs.tokens.token_for.Goals as goal

pub returns-in_default : goal.returns-in_default
unfolding token_for
returns-in_default c = no-token c.default.ensures ∙ sym (ap token_for (none-current _ (sym c.current.ensures ∙ c.in_default.is)))

pub returns : goal.returns
unfolding token_for
returns c =
    let a = c.args.a.now.lent in
    let now = current-is _ (sym c.current.ensures ∙ c.in-Some.is) in
    let counted = sym (length-chunks a.starts.now a.sizes.now a.pointers.now a.head.count) in
    ap (λ (n : ℕ). token_of n c.in-Some.c.pointer) (counted ∙ ap length now.newest) ∙ sym (ap token_for now.newest)
