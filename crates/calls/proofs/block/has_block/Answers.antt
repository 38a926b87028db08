-- `calls::block::has_block` meets its contract: each way out is one case of the definition, whose sum with the offset is asked as a difference to the end.
-- Assumes nothing.
use Prim.Native.Nat.{ℕ, ◌+◌, ◌-◌, ◌≤◌, ◌<◌}
use native.Mathlib.Omega.{arith}
use mathlib.Core.Bool.{Bool, true, false, ◌&&◌, cond}
use mathlib.Core.Path.{◌≡◌, sym, ◌∙◌}
use lib.Dec.{leb, eqb}
use borrow.Author.Tests.{le-leb, lt-leb, leb-true, eq-eqb, ne_eqb}
use Rattle.rounding.proofs.Tests.{same, and_left, and_right, and_both, refute, true-false}
use Rattle.arena.specs.declared.Chunk.{Chunk}
use Rattle.arena.specs.Record.{end_of}
use Rattle.calls.specs.Tests.{has_block}
use Rattle.calls.proofs.block.has_block.Goals as goal

module _ (offset size : ℕ) (c : Chunk) where
  of-nothing : size ≡ 0 → has_block offset size c ≡ (leb c.start offset && leb offset (end_of c))
  unfolding has_block
  of-nothing e = rw (eq-eqb size 0 e)

  of-something : (size ≡ 0 → ⊥) → has_block offset size c ≡ (leb c.pointer offset && leb (offset + size) (end_of c))
  unfolding has_block
  of-something n = rw (ne_eqb size 0 n)

  past_end : end_of c < offset → has_block offset size c ≡ false
  unfolding has_block
  past_end l = go (eqb size 0)
    where
      go : (b : Bool) → cond b (leb c.start offset && leb offset (end_of c)) (leb c.pointer offset && leb (offset + size) (end_of c)) ≡ false
      go true = refute _ (λ t. true-false (and_right (leb c.start offset) _ t) (lt-leb offset (end_of c) l))
      go false = refute _ (λ t. true-false (and_right (leb c.pointer offset) _ t) (lt-leb (offset + size) (end_of c) (omega arith)))

  -- a sum that stays below the end, and a difference to it
  room : offset ≤ end_of c → leb size (end_of c - offset) ≡ leb (offset + size) (end_of c)
  room l =
      same (λ t. le-leb (offset + size) (end_of c) (omega (arith, leb-true size (end_of c - offset) t)))
      (λ t. le-leb size (end_of c - offset) (omega (arith, leb-true (offset + size) (end_of c) t)))

pub returns-then-end-offset : goal.returns-then-end-offset
returns-then-end-offset c =
    let a = c.args in
    sym (past_end a.offset a.size a.c c.if-end-offset.true)

pub returns-then-size-eq0 : goal.returns-then-size-eq0
returns-then-size-eq0 c =
    let a = c.args in
    let below = le-leb a.offset (end_of a.c) c.if-end-offset.false in
    sym (of-nothing a.offset a.size a.c c.if-size-eq0.true
    ∙ same (λ t. and_left _ _ t) (λ t. and_both t below))

pub returns-then-offset-c : goal.returns-then-offset-c
returns-then-offset-c c =
    let a = c.args in
    sym (of-something a.offset a.size a.c c.if-size-eq0.false
    ∙ rw (lt-leb a.c.pointer a.offset c.if-offset-c.true))

pub returns : goal.returns
returns c =
    let a = c.args in
    room a.offset a.size a.c c.if-end-offset.false
    ∙ sym (of-something a.offset a.size a.c c.if-size-eq0.false
    ∙ rw (le-leb a.c.pointer a.offset c.if-offset-c.false))
