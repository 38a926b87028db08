-- `arena::ladder::is_tried` meets its contract: a way out with false leaves neither the floor nor a small limit. Assumes nothing.
use Prim.Native.Nat.{ℕ, ◌≤◌, ◌<◌}
use borrow.Author.Tests.{eqb-true, eq-eqb}
use mathlib.Core.Logic.{inl, inr, ⊎_elim}
use mathlib.Core.Path.{◌≡◌, sym}
use native.Mathlib.Omega.{arith}
use Rattle.rounding.proofs.Tests.{same}
use Rattle.arena.specs.Ladder.{floor_of}
use Rattle.arena.proofs.Rungs.{tried_open, tried-shut, not-tried}
use Rattle.arena.proofs.ladder.is_tried.Goals as goal

pub returns-then-max-base : goal.returns-then-max-base
returns-then-max-base c = sym (tried-shut _ _ _ _ (inl (omega arith)))

pub returns-then-h-ne1 : goal.returns-then-h-ne1
returns-then-h-ne1 c = sym (not-tried _ _ _ _ (omega arith) (λ s. omega (arith, s.limited)))

pub returns-then-h-size : goal.returns-then-h-size
returns-then-h-size c = sym (not-tried _ _ _ _ (omega arith) (λ s. omega arith))

pub returns-then-base-size : goal.returns-then-base-size
returns-then-base-size c = sym (not-tried _ _ _ _ (omega arith) (λ s. omega arith))

pub returns-then-h-ge-DEFAULT_SIZE : goal.returns-then-h-ge-DEFAULT_SIZE
returns-then-h-ge-DEFAULT_SIZE c = sym (not-tried _ _ _ _ (omega arith) (λ s. omega arith))

-- Over plain numbers, since `omega` would read every place on the way to the end.
below_floor : (base n size : ℕ) → base < n → n ≡ floor_of size → floor_of size ≤ base → ⊥
below_floor base n size b e f = omega arith

pub returns : goal.returns
returns c =
    let a = c.args in
    same
    (λ t.
    tried-shut a.h a.held a.size a.base
    (inr (record {
      limited = c.if-h-ne1.false;
      above-size = c.if-h-size.false;
      covers = omega arith;
      below-default = c.if-h-ge-DEFAULT_SIZE.false;
      nothing-held = eqb-true a.held 0 t;
    })))
    (λ t.
    ⊎_elim (λ f. absurd (below_floor a.base c.max.result a.size c.if-max-base.false c.max.ensures f))
    (λ s. eq-eqb a.held 0 s.nothing-held) (tried_open a.h a.held a.size a.base t))
