-- A part of a buffer that grows at its end, or is used up from its front. Assumes nothing.
use Prim.Native.Nat.{ℕ, ◌+◌, ◌-◌, ◌≤◌}
use native.Mathlib.Nat.{le_of_eq}
use native.Mathlib.Omega.{arith}
use mathlib.Core.Bool.{Bool, true, false, cond}
use mathlib.Core.List.{List, ◌++◌}
use mathlib.Core.Path.{◌≡◌, refl, sym, ap, ◌∙◌}
use lib.Dec.{ltb}
use lib.ListN.{length, take, drop, length-take, length-drop, drop_of_length-le}
use lib.Seq.{take-add, take_all, drop_at, drop-drop}
use borrow.Author.Tests.{ltb-false}
use Rattle.calls.specs.Bytes.{part}
use Rattle.calls.proofs.Writing.{length_part}

module _ (bytes : List ℕ) (start end : ℕ) (starts : start ≤ end) where
  -- the bytes past the end follow
  part-more : (n : ℕ) → part bytes start (end + n - start) ≡ part bytes start (end - start) ++ take n (drop end bytes)
  part-more n =
      let size : end + n - start ≡ end - start + n = omega arith in
      let place : start + (end - start) ≡ end = omega arith in
      ap (λ (k : ℕ). take k (drop start bytes)) size
      ∙ take-add (end - start) n (drop start bytes)
      ∙ ap (λ (l : List ℕ). part bytes start (end - start) ++ take n l) (drop-drop (end - start) start bytes ∙ ap (λ (k : ℕ). drop k bytes) place)

  -- no more than there are
  pub part_filled : (n : ℕ) → end ≤ length bytes →
      part bytes start (cond (ltb n (length bytes - end)) (end + n) (length bytes) - start) ≡ part bytes start (end - start) ++ take n (drop end bytes)
  part_filled n ends = go (ltb n (length bytes - end)) refl
    where
      go : (b : Bool) → ltb n (length bytes - end) ≡ b →
          part bytes start (cond b (end + n) (length bytes) - start) ≡ part bytes start (end - start) ++ take n (drop end bytes)
      go true t = part-more n
      go false t =
          let left = length bytes - end in
          let many : left ≤ n = ltb-false n left t in
          let size : length (drop end bytes) ≡ left = length-drop end bytes in
          let whole : length bytes ≡ end + left = omega arith in
          let all : take left (drop end bytes) ≡ take n (drop end bytes) =
          take_all left (drop end bytes) (le_of_eq size) ∙ sym (take_all n (drop end bytes) (omega (arith, size))) in
          ap (λ (k : ℕ). part bytes start (k - start)) whole ∙ part-more left ∙ ap (λ (l : List ℕ). part bytes start (end - start) ++ l) all

  pub part-used : (n : ℕ) → end ≤ length bytes → n ≤ end - start → part bytes (start + n) (end - (start + n)) ≡ drop n (part bytes start (end - start))
  part-used n ends few =
      let rest = end - (start + n) in
      let size : end - start ≡ n + rest = omega arith in
      let past : length (part bytes start n) ≡ n = length_part bytes start n (omega arith) in
      sym (
      ap (λ (k : ℕ). drop n (part bytes start k)) size
      ∙ ap (drop n) (take-add n rest (drop start bytes))
      ∙ drop_at (part bytes start n) (take rest (drop n (drop start bytes))) n past
      ∙ ap (take rest) (drop-drop n start bytes)
      )

  pub part-used-up : (n : ℕ) → end ≤ length bytes → end - start ≤ n → part bytes end (end - end) ≡ drop n (part bytes start (end - start))
  part-used-up n ends many =
      let none : end - end ≡ 0 = omega arith in
      ap (part bytes end) none
      ∙ sym (drop_of_length-le (part bytes start (end - start)) {i = n} (omega (arith, length-take (end - start) (drop start bytes))))
