-- What the ledger says of a byte of a block, once the block is new, filled, written or moved. Each goes by the part of the list that the byte is in.
-- Assumes nothing.
use Prim.Native.Nat.{ℕ, zero, suc, ◌+◌, ◌-◌, ◌≤◌, ◌<◌, min}
use native.Mathlib.Omega.{arith}
use native.Mathlib.Decide.{dec_lt}
use mathlib.Core.List.{List, [], ◌∷◌, ◌++◌}
use mathlib.Core.Logic.{◌⊎◌, inl, inr}
use Rattle.std.specs.Prelude.{Option, None, Some}
use Rattle.std.proofs.lemmas.Option.{none-some, same_Some}
use mathlib.Core.Path.{◌≡◌, refl, sym, ap, ◌∙◌}
use lib.ListN.{length, get_or, take, drop, replicate, length-append, length-take}
use lib.ListN.{length-drop, length-replicate, length-map, get_or-replicate, get_or-append, get_or-eq_default}
use lib.Seq.{length-take-le, get_or-append-add, get_or-take, get_or-drop}
use Rattle.sequence.specs.Ledger.{Live, unknown, known, kept, noted}

module _ {A : Type 0} (d : A) where
  -- past the first of two lists
  get_d_past : (front rest : List A) (i n : ℕ) → length front ≡ n → n ≤ i → get_or (front ++ rest) i d ≡ get_or rest (i - n) d
  get_d_past front rest i n e l =
      let place : i ≡ length front + (i - n) = omega arith in
      ap (λ (k : ℕ). get_or (front ++ rest) k d) place ∙ get_or-append-add front rest (i - n) d

-- a byte that is known is one of the block's
pub known-inside : (put : List (Option ℕ)) (i v : ℕ) → get_or put i None ≡ Some v → i < length put
known-inside put i v e = go (dec_lt i (length put))
  where
    go : Dec (i < length put) → i < length put
    go (yes l) = l
    go (no g) = absurd (none-some v (sym (get_or-eq_default put None (omega arith)) ∙ e))

-- a new block's bytes are not known
pub unknown-nothing : (size i v : ℕ) → get_or (unknown size) i None ≡ Some v → ⊥
unknown-nothing zero i v e = none-some v e
unknown-nothing (suc size) zero v e = none-some v e
unknown-nothing (suc size) (suc i) v e = unknown-nothing size i v e

-- bytes that are known are what they are known as
pub known_at : (new : List ℕ) (i v : ℕ) → get_or (known new) i None ≡ Some v → get_or new i 0 ≡ v
known_at [] i v e = absurd (none-some v e)
known_at (x ∷ new) zero v e = same_Some x v e
known_at (x ∷ new) (suc i) v e = known_at new i v e

pub known_same : (size value : ℕ) → known (replicate size value) ≡ replicate size (Some value)
known_same zero value = refl
known_same (suc size) value = ap (λ (l : List (Option ℕ)). Some value ∷ l) (known_same size value)

-- after an owner's write a byte is one of those written, or it is known as before
module _ (put : List (Option ℕ)) (from : ℕ) (new : List ℕ) (fits : from + length new ≤ length put) where
  rest : List (Option ℕ)
  rest = drop (from + length new) put

  front : length (take from put) ≡ from
  front = length-take-le from put (omega arith)

  middle : length (known new) ≡ length new
  middle = length-map new Some

  pub noted-length : length (noted put from new) ≡ length put
  unfolding noted
  noted-length = simp (length-append, length-take, length-drop, length-map) (omega arith)

  pub noted-cases : (i v : ℕ) → get_or (noted put from new) i None ≡ Some v →
      ((from ≤ i) × (i < from + length new) × (get_or new (i - from) 0 ≡ v))
      ⊎ ((from ≤ i → i < from + length new → ⊥) × (get_or put i None ≡ Some v))
  unfolding noted rest
  noted-cases i v e = go (dec_lt i from) (dec_lt i (from + length new))
    where
      go : Dec (i < from) → Dec (i < from + length new) →
          ((from ≤ i) × (i < from + length new) × (get_or new (i - from) 0 ≡ v)) ⊎ ((from ≤ i → i < from + length new → ⊥) × (get_or put i None ≡ Some v))
      go (yes l) _ =
          inr (
            (λ a b. omega arith),
            sym (get_or-take from put i None l)
                ∙ sym (get_or-append (take from put) (known new ++ rest) None i (omega (arith, front)))
                ∙ e,
          )
      go (no g) (yes h) =
          let past = sym (get_d_past None (take from put) (known new ++ rest) i from front (omega arith)) ∙ e in
          inl (
            omega arith,
            h,
            known_at new (i - from) v (sym (get_or-append (known new) rest None (i - from) (omega (arith, middle))) ∙ past),
          )
      go (no g) (no h) =
          let past = sym (get_d_past None (take from put) (known new ++ rest) i from front (omega arith)) ∙ e in
          let further = sym (get_d_past None (known new) rest (i - from) (length new) middle (omega arith)) ∙ past in
          let place : from + length new + (i - from - length new) ≡ i = omega arith in
          inr (
            (λ a b. omega arith),
            ap (λ (k : ℕ). get_or put k None) (sym place) ∙ sym (get_or-drop (from + length new) put (i - from - length new) None) ∙ further,
          )

-- after a move a byte is known as before, or it is a fresh one past the old size
module _ (b : Live) (whole : length b.put ≡ b.size) (new : ℕ) (fresh : Option ℕ) where
  pub kept-length : length (kept b new fresh) ≡ new
  unfolding kept
  kept-length = simp (length-append, length-take, length-replicate) (omega arith)

  pub kept-cases : (i v : ℕ) → get_or (kept b new fresh) i None ≡ Some v →
      ((i < b.size) × (i < new) × (get_or b.put i None ≡ Some v)) ⊎ ((b.size ≤ i) × (i < new) × (fresh ≡ Some v))
  unfolding kept
  kept-cases i v e = go (dec_lt i (min new b.size))
    where
      first : length (take new b.put) ≡ min new b.size
      first = length-take new b.put ∙ ap (min new) whole

      go : Dec (i < min new b.size) →
          ((i < b.size) × (i < new) × (get_or b.put i None ≡ Some v)) ⊎ ((b.size ≤ i) × (i < new) × (fresh ≡ Some v))
      go (yes l) =
          inl (
            omega arith,
            omega arith,
            sym (get_or-take new b.put i None (omega arith))
                ∙ sym (get_or-append (take new b.put) (replicate (new - b.size) fresh) None i (omega (arith, first)))
                ∙ e,
          )
      go (no g) =
          let past = sym (get_d_past None (take new b.put) (replicate (new - b.size) fresh) i (min new b.size) first (omega arith)) ∙ e in
          let inside : i - min new b.size < new - b.size =
          omega (arith, known-inside (replicate (new - b.size) fresh) (i - min new b.size) v past, length-replicate (new - b.size) fresh) in
          inr (
            omega arith,
            omega arith,
            sym (get_or-replicate (new - b.size) (i - min new b.size) fresh None inside) ∙ past,
          )
