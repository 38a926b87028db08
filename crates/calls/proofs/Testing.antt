-- Tests that are made in parts: a part's refusal is the whole's, and past a part that refuses nothing the rest decides. What a part that refuses nothing
-- tells is said in facts. Assumes nothing.
use Prim.Native.Nat.{ℕ, ◌+◌, ◌≤◌}
use mathlib.Core.Bool.{Bool, true, false}
use mathlib.Core.List.{List, [], ◌∷◌, ◌++◌}
use Rattle.std.specs.Prelude.{Option, None, Some, Err, Ok}
use Rattle.std.proofs.lemmas.Option.{none-some}
use Rattle.rounding.proofs.Optional.{some-none}
use mathlib.Core.Path.{◌≡◌, refl, sym, ◌∙◌, ap}
use lib.Dec.{eqb}
use borrow.Author.Tests.{ltb-false, eqb-true, eq-eqb, ne_eqb, not-false}
use Rattle.rounding.proofs.Tests.{true-not, false-not}
use Rattle.arena.specs.declared.Arena.{Arena}
use Rattle.arena.specs.declared.Refusal.{Refusal}
use Rattle.arena.specs.declared.Refusal.TheVariants.{State, Region}
use Rattle.arena.specs.Numbers.{most}
use Rattle.arena.specs.Record.{held_of}
use Rattle.arena.specs.Refusals.{Test, refused_by}
use Rattle.arena.specs.Sound.{allowed_align, sound_of, state_test}
use Rattle.arena.proofs.Refusing.{refused-now, refused-later, none-applies, not-refused}
use Rattle.arena.proofs.Soundness.{sound-open}
use Rattle.arena.proofs.Standing.{sound-standing}
use Rattle.calls.specs.Tests.{region_test, acceptable}
use Rattle.calls.specs.Write.{lend_answer}
use Rattle.calls.specs.Inner.{lent_tests, block_tests, first_of}
use Rattle.calls.proofs.Blocks.{acceptable-lies, lies-inside}

-- a part of the tests, and the rest of them
pub refused-before : (ts us : List Test) {r : Refusal} → refused_by ts ≡ Some r → refused_by (ts ++ us) ≡ Some r
unfolding refused_by
refused-before [] us {r} e = absurd (none-some r e)
refused-before (t ∷ ts) us {r} e = go t.applies refl (refused-before ts us)
  where
    go : (b : Bool) → t.applies ≡ b → (refused_by ts ≡ Some r → refused_by (ts ++ us) ≡ Some r) → refused_by (t ∷ (ts ++ us)) ≡ Some r
    go true a rest = refused-now t (ts ++ us) a ∙ sym (refused-now t ts a) ∙ e
    go false a rest = refused-later t (ts ++ us) a ∙ rest (sym (refused-later t ts a) ∙ e)

pub passed-before : (ts us : List Test) → refused_by ts ≡ None → refused_by (ts ++ us) ≡ refused_by us
unfolding refused_by
passed-before [] us e = refl
passed-before (t ∷ ts) us e = go t.applies refl (passed-before ts us)
  where
    go : (b : Bool) → t.applies ≡ b → (refused_by ts ≡ None → refused_by (ts ++ us) ≡ refused_by us) → refused_by (t ∷ (ts ++ us)) ≡ refused_by us
    go true a rest = absurd (some-none t.refusal (sym (refused-now t ts a) ∙ e))
    go false a rest = refused-later t (ts ++ us) a ∙ rest (sym (refused-later t ts a) ∙ e)

pub passes-both : (ts us : List Test) → refused_by (ts ++ us) ≡ None → (refused_by ts ≡ None) × (refused_by us ≡ None)
passes-both ts us e = go (refused_by ts) refl
  where
    go : (o : Option Refusal) → refused_by ts ≡ o → (refused_by ts ≡ None) × (refused_by us ≡ None)
    go None p = (p, sym (passed-before ts us p) ∙ e)
    go (Some r) p = absurd (some-none r (sym (refused-before ts us p) ∙ e))

-- the answer says which case holds
pub tests-refuse : (o : Option Refusal) {r : Refusal} → Err r ≡ lend_answer o → o ≡ Some r
unfolding lend_answer
tests-refuse (Some x) e = cc
tests-refuse None e = cc

pub tests-pass : (o : Option Refusal) → Ok tt ≡ lend_answer o → o ≡ None
unfolding lend_answer
tests-pass (Some x) e = cc
tests-pass None e = refl

-- what the tests of what is lent answer, test by test
module _ (a : Arena) (lent : ℕ) where
  pub lent-state : sound_of a ≡ false → first_of (lent_tests a lent) ≡ Err State
  unfolding lend_answer
  lent-state e = ap lend_answer (refused-now (state_test a) (region_test a lent ∷ []) (false-not e))

  pub lent-region : sound_of a ≡ true → (lent ≡ a.head.region → ⊥) → first_of (lent_tests a lent) ≡ Err Region
  unfolding lend_answer
  lent-region s differs =
      ap lend_answer
      (refused-later (state_test a) (region_test a lent ∷ []) (true-not s)
      ∙ refused-now (region_test a lent) [] (false-not (ne_eqb lent a.head.region differs)))

  pub lent-done : sound_of a ≡ true → lent ≡ a.head.region → first_of (lent_tests a lent) ≡ Ok tt
  unfolding lend_answer
  lent-done s e = ap lend_answer (none-applies (lent_tests a lent) (true-not s, (true-not (eq-eqb lent a.head.region e), tt)))

-- a sound record, lent its own region
pub record Lent (a : Arena) (lent : ℕ) : Type 0 where
  pub sound : sound_of a ≡ true
  pub whole : lent ≡ a.head.region

pub lent-passes : (a : Arena) (lent : ℕ) → refused_by (lent_tests a lent) ≡ None → Lent a lent
lent-passes a lent e =
    let passed = not-refused (lent_tests a lent) e in
    record {
      sound = not-false (sound_of a) passed.0;
      whole = eqb-true lent a.head.region (not-false (eqb lent a.head.region) passed.1.0);
    }

-- a block that may be named
pub record Named (a : Arena) (offset size align : ℕ) : Type 0 where
  pub size_bound : size ≤ most
  pub align_allowed : allowed_align align ≡ true
  pub block : acceptable (held_of a) offset size align ≡ true

pub block-passes : (a : Arena) (offset size align : ℕ) → refused_by (block_tests a offset size align) ≡ None → Named a offset size align
block-passes a offset size align e =
    let passed = not-refused (block_tests a offset size align) e in
    record {
      size_bound = ltb-false most size passed.0;
      align_allowed = not-false (allowed_align align) passed.1.0;
      block = not-false (acceptable (held_of a) offset size align) passed.1.1.0;
    }

-- and that lies in the region
pub block_inside : (a : Arena) (offset size align : ℕ) → sound_of a ≡ true → acceptable (held_of a) offset size align ≡ true → offset + size ≤ a.head.region
block_inside a offset size align s t =
    let standing = sound-standing (sound-open a s) in
    lies-inside standing (acceptable-lies (held_of a) offset size align standing t)
