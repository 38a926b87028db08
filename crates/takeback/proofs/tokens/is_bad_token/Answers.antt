-- `takeback::tokens::is_bad_token` meets its contract: each way out is one case of what makes a token bad. Assumes nothing.
use Prim.Native.Nat.{ℕ}
use native.Mathlib.Omega.{arith}
use mathlib.Core.Bool.{not}
use mathlib.Core.List.{List, ◌∷◌}
use mathlib.Core.Path.{◌≡◌, sym, ◌∙◌, ap}
use lib.ListN.{length}
use Rattle.rounding.proofs.Powers.{power-one-bit}
use Rattle.arena.specs.declared.Chunk.{Chunk}
use Rattle.arena.proofs.Current.{Current, none-current, current-is}
use Rattle.arena.proofs.Soundness.{sound-open}
use Rattle.arena.proofs.View.{length-chunks}
use Rattle.calls.specs.declared.Token.{Token}
use Rattle.calls.specs.Token.{off_current, bad_token}
use Rattle.calls.proofs.Reading.{current-end}
use Rattle.calls.proofs.Cancelling.{count-above, count-below, count-equal, off-elsewhere, off-below, off-above, off-minimum}
use Rattle.takeback.proofs.tokens.is_bad_token.Goals as goal

-- a token of the present count is bad by the current chunk, and by none where none is held
module _ (minimum : ℕ) (cs : List Chunk) (offset : ℕ) (token : Token) (same : token.count ≡ length cs) where
  by-current : {c : Chunk} → (now : Current cs c) → bad_token minimum cs offset token ≡ off_current minimum (c ∷ now.rest) offset token.pointer
  by-current now = count-equal minimum cs offset token same ∙ ap (λ (ds : List Chunk). off_current minimum ds offset token.pointer) now.newest

pub returns-then-h-token : goal.returns-then-h-token
returns-then-h-token c =
    let a = c.args.a.now.lent in
    sym (count-above _ _ _ _ (omega (arith, length-chunks a.starts.now a.sizes.now a.pointers.now a.head.count)))

pub returns-then-token-h : goal.returns-then-token-h
returns-then-token-h c =
    let a = c.args.a.now.lent in
    sym (count-below _ _ _ _ (omega (arith, c.if-token-h.true, length-chunks a.starts.now a.sizes.now a.pointers.now a.head.count)))

pub returns-in_default : goal.returns-in_default
unfolding off_current
returns-in_default c =
    let a = c.args.a.now.lent in
    let same = c.if-token-h.false ∙ sym (length-chunks a.starts.now a.sizes.now a.pointers.now a.head.count) in
    sym
    (count-equal _ _ _ _ same
    ∙ ap (λ (cs : List Chunk). off_current a.head.minimum cs c.args.offset c.args.token.pointer) (none-current _ (sym c.current.ensures ∙ c.in_default.is)))

pub returns-then-offset-c : goal.returns-then-offset-c
returns-then-offset-c c =
    let a = c.args.a.now.lent in
    let same = c.if-token-h.false ∙ sym (length-chunks a.starts.now a.sizes.now a.pointers.now a.head.count) in
    sym (by-current _ _ _ _ same (current-is _ (sym c.current.ensures ∙ c.in-Some.is)) ∙ off-elsewhere _ _ _ _ _ c.if-offset-c.true)

pub returns-then-token-c : goal.returns-then-token-c
returns-then-token-c c =
    let a = c.args.a.now.lent in
    let same = c.if-token-h.false ∙ sym (length-chunks a.starts.now a.sizes.now a.pointers.now a.head.count) in
    sym (by-current _ _ _ _ same (current-is _ (sym c.current.ensures ∙ c.in-Some.is)) ∙ off-below _ _ _ _ _ c.if-offset-c.false c.if-token-c.true)

pub overflow_add-c : goal.overflow_add-c
overflow_add-c c = omega (arith, current-end (sound-open _ c.args.a.now.sound) (current-is _ (sym c.current.ensures ∙ c.in-Some.is)))

pub returns-then-c-token : goal.returns-then-c-token
returns-then-c-token c =
    let a = c.args.a.now.lent in
    let same = c.if-token-h.false ∙ sym (length-chunks a.starts.now a.sizes.now a.pointers.now a.head.count) in
    sym
    (by-current _ _ _ _ same (current-is _ (sym c.current.ensures ∙ c.in-Some.is))
    ∙ off-above _ _ _ _ _ c.if-offset-c.false c.if-token-c.false c.if-c-token.true)

pub is_multiple_of_power-requires : goal.is_multiple_of_power-requires
is_multiple_of_power-requires c = power-one-bit (sound-open _ c.args.a.now.sound).head.minimum-power

pub returns : goal.returns
returns c =
    let a = c.args.a.now.lent in
    let same = c.if-token-h.false ∙ sym (length-chunks a.starts.now a.sizes.now a.pointers.now a.head.count) in
    ap not c.is_multiple_of_power.ensures
    ∙ sym
    (by-current _ _ _ _ same (current-is _ (sym c.current.ensures ∙ c.in-Some.is))
    ∙ off-minimum _ _ _ _ _ c.if-offset-c.false c.if-token-c.false c.if-c-token.false)
