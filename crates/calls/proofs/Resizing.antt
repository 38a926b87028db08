-- What resize answers: of old size 0 what allocate does, and else what a shrink or a grow at one alignment does. Assumes nothing.
use Prim.Native.Nat.{ℕ, ◌<◌, min}
use native.Mathlib.Omega.{arith}
use native.Mathlib.Nat.{min-le_left}
use mathlib.Core.Bool.{Bool, true, false, not, ◌&&◌, ◌||◌}
use mathlib.Core.List.{List, [], ◌∷◌}
use mathlib.Core.Path.{◌≡◌, refl, sym, ◌∙◌, ap}
use lib.Dec.{eqb}
use borrow.Author.Tests.{ne_eqb}
use Rattle.arena.specs.declared.Arena.{Arena}
use Rattle.arena.specs.declared.Refusal.TheVariants.{Align, Block}
use Rattle.arena.specs.Record.{held_of}
use Rattle.arena.specs.Refusals.{Test, test, refused_by, Given}
use Rattle.arena.specs.Sound.{allowed_align}
use Rattle.calls.specs.Bytes.{carried, after_given}
use Rattle.calls.specs.Tests.{acceptable, sizes_test, align_test}
use Rattle.calls.specs.Allocate.{allocate_of}
use Rattle.calls.specs.Resize.{resize_in, resize_tests, resize_of}
use Rattle.calls.specs.Inner.{change_tests}
use Rattle.calls.proofs.Changing.{BothInside}
use Rattle.calls.proofs.Results.{given-at, resize-result}
use Rattle.calls.proofs.Writing.{carried-nothing}
use Rattle.std.specs.Prelude.{Err, Ok}

or_same : (b : Bool) → (b || b) ≡ b
or_same true = refl
or_same false = refl

-- the tests of a resize past those of what is lent
abbrev pub resize_rest : Arena → ℕ → ℕ → ℕ → ℕ → List Test
resize_rest a offset old align new =
    sizes_test old new ∷ (align_test align ∷ (test Block (not (eqb old 0) && not (acceptable (held_of a) offset old align)) ∷ []))

module _ (a : Arena) (offset old align new : ℕ) where
  -- a block of a size above 0 is tested as for a change that goes no wrong way
  pub as-change : (old ≡ 0 → ⊥) → refused_by (resize_rest a offset old align new) ≡ refused_by (change_tests a offset old align new align false)
  unfolding refused_by
  as-change n =
      let aligned = or_same (not (allowed_align align)) in
      let named = ap (λ (b : Bool). not b && not (acceptable (held_of a) offset old align)) (ne_eqb old 0 n) in
      λ i. refused_by (sizes_test old new ∷ (test Align (sym aligned i) ∷ (test Block (named i) ∷ [])))

  -- of old size 0 nothing is named: the answer is allocate's, and no byte is carried
  pub resize-nothing : (lent : ℕ) → old ≡ 0 → resize_of a lent offset old align new ≡ allocate_of a lent new align
  unfolding resize_of allocate_of resize_in refused_by
  resize-nothing lent e = ap (λ (n : ℕ). resize_of a lent offset n align new) e

  pub nothing-carried : (bytes : List ℕ) (g : Given) → old ≡ 0 → after_given g (λ to. carried bytes offset to (min old new)) bytes ≡ bytes
  unfolding after_given
  nothing-carried bytes (Ok to) e =
      let none_kept : min old new ≡ 0 = omega (arith, min-le_left old new) in
      ap (carried bytes offset to) none_kept ∙ carried-nothing bytes offset to
  nothing-carried bytes (Err r) e = refl

  -- of any record and any numbers: where a block is answered for one of a size above 0, its old and its new bytes lie in the region
  pub resize-served : (lent : ℕ) → 0 < old → {to : ℕ} → (resize_of a lent offset old align new).answer ≡ Ok to → BothInside lent offset old to new
  unfolding resize_of
  resize-served lent l e =
      let found = given-at a (refused_by (resize_tests a lent offset old align new)) (resize_in a.head (held_of a) offset old align new) e in
      let is = resize-result a lent offset old align new found.passed found.gives in
      record { source = is.old-inside l; room = omega (arith, is.inside, found.there) }
