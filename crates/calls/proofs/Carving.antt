-- What the current chunk gives: the block lies between the chunk's start and its pointer, on the minimum and on the alignment, and the
-- pointer goes to it. Assumes nothing.
use Prim.Native.Nat.{ℕ, ◌+◌, ◌-◌, ◌≤◌, ◌∣◌, max}
use native.Mathlib.Nat.{dvd-sub}
use native.Mathlib.Omega.{arith}
use mathlib.Core.Bool.{◌&&◌}
use mathlib.Core.List.{List, ◌∷◌}
use Rattle.std.specs.Prelude.{Some, option_map}
use Rattle.rounding.proofs.Optional.{mapped_some}
use mathlib.Core.Path.{◌≡◌, refl, ap, subst}
use lib.Dec.{leb}
use borrow.Author.Tests.{leb-true, le-leb}
use Rattle.rounding.specs.Round.{round_down}
use Rattle.rounding.proofs.First.{only-passed, passed-only}
use Rattle.rounding.proofs.Tests.{and_left, and_right, and_both}
use Rattle.rounding.proofs.Rounding.{down-at-most, down-multiple, up-at-least, up_multiple}
use Rattle.rounding.proofs.Powers.{Power, power-positive, power-max, of-max-left, of-max-right, down-keeps}
use Rattle.arena.specs.declared.Chunk.{Chunk}
use Rattle.arena.specs.Record.{with_pointer}
use Rattle.calls.specs.Allocate.{Taken, needed, chunk_gives, current_gives}

-- a block of this size and alignment, carved from the bytes below a pointer
pub record Carved (minimum start pointer size align offset : ℕ) : Type 0 where
  pub low : start ≤ offset
  pub fits : offset + size ≤ pointer
  pub on-minimum : minimum ∣ offset
  pub on-align : align ∣ offset

module _ (minimum : ℕ) (c : Chunk) (size align : ℕ) where
  pub chunk-carves : Power minimum → Power align → minimum ∣ c.pointer → {p : ℕ} → chunk_gives minimum c size align ≡ Some p →
      Carved minimum c.start c.pointer size align p
  unfolding chunk_gives
  chunk-carves pm pa d {p} e =
      let r = round_down c.pointer align in
      let n = needed minimum size align in
      let (test, is) = only-passed (leb c.start r && leb n (r - c.start)) (r - n) e in
      let room = leb-true n (r - c.start) (and_right (leb c.start r) _ test) in
      let above = leb-true c.start r (and_left (leb c.start r) _ test) in
      let whole = up_multiple size (max align minimum) in
      let enough = up-at-least size (max align minimum) (power-positive (power-max pa pm)) in
      let below = down-at-most c.pointer align in
      record {
        low = omega arith;
        fits = omega arith;
        on-minimum = subst (λ (x : ℕ). minimum ∣ x) is (dvd-sub minimum (down-keeps pm pa d) (of-max-right pa pm whole));
        on-align = subst (λ (x : ℕ). align ∣ x) is (dvd-sub align (down-multiple c.pointer align) (of-max-left pa pm whole));
      }

  -- it gives a block where the needed bytes stand above the start
  pub chunk-gives : c.start + needed minimum size align ≤ round_down c.pointer align →
      chunk_gives minimum c size align ≡ Some (round_down c.pointer align - needed minimum size align)
  unfolding chunk_gives
  chunk-gives l =
      let r = round_down c.pointer align in
      let n = needed minimum size align in
      passed-only (and_both (le-leb c.start r (omega arith)) (le-leb n (r - c.start) (omega arith))) refl

-- the same of the held chunks: the block, and the chunks with the pointer at it
pub record TakenFrom (minimum : ℕ) (c : Chunk) (cs : List Chunk) (size align : ℕ) (t : Taken) : Type 0 where
  pub chunks : t.chunks ≡ with_pointer c t.offset ∷ cs
  pub carved : Carved minimum c.start c.pointer size align t.offset

module _ (minimum : ℕ) (c : Chunk) (cs : List Chunk) (size align : ℕ) where
  taken_at : ℕ → Taken
  taken_at p = record { offset = p; chunks = with_pointer c p ∷ cs }

  pub current-carves : Power minimum → Power align → minimum ∣ c.pointer → {t : Taken} → current_gives minimum (c ∷ cs) size align ≡ Some t →
      TakenFrom minimum c cs size align t
  unfolding current_gives taken_at
  current-carves pm pa d e =
      let found = mapped_some taken_at (chunk_gives minimum c size align) e in
      subst (TakenFrom minimum c cs size align) found.2
      (record { chunks = refl; carved = chunk-carves minimum c size align pm pa d found.1 })

  pub current-gives : c.start + needed minimum size align ≤ round_down c.pointer align →
      (t : Taken) × (current_gives minimum (c ∷ cs) size align ≡ Some t)
  unfolding current_gives taken_at
  current-gives l = (_, ap (option_map taken_at) (chunk-gives minimum c size align l))
