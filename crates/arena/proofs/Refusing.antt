-- Which refusal is answered. The tests stand in number order, so the first that applies has the lowest number of those that do.
-- Assumes nothing.
use Prim.Native.Nat.{ℕ, ◌<◌}
use native.Mathlib.Nat.{lt_trans}
use native.Mathlib.Omega.{arith}
use mathlib.Core.Bool.{Bool, true, false}
use lib.Dec.{ltb}
use mathlib.Core.List.{List, [], ◌∷◌}
use Rattle.std.specs.Prelude.{None, Some}
use Rattle.std.proofs.lemmas.Option.{none-some, same_Some}
use mathlib.Core.Path.{◌≡◌, refl, sym, ◌∙◌, ap}
use borrow.Author.Tests.{ltb-true}
use Rattle.rounding.specs.Every.{Each}
use Rattle.rounding.proofs.Every.{every_map}
use Rattle.rounding.proofs.Tests.{and_left, and_right, true-not, false-not}
use Rattle.arena.specs.declared.Arena.{Arena}
use Rattle.std.specs.Prelude.{Ok, Err}
use Rattle.arena.specs.declared.Refusal.{Refusal}
use Rattle.arena.specs.declared.Refusal.TheVariants.{State}
use Rattle.arena.specs.Refusals.{number_of, Test, refused_by, in_order, answered}
use Rattle.arena.specs.Sound.{sound_of, state_test}

-- the head of the list and its rest
pub refused-now : (t : Test) (ts : List Test) → t.applies ≡ true → refused_by (t ∷ ts) ≡ Some t.refusal
unfolding refused_by
refused-now t ts e = rw e

pub refused-later : (t : Test) (ts : List Test) → t.applies ≡ false → refused_by (t ∷ ts) ≡ refused_by ts
unfolding refused_by
refused-later t ts e = rw e

-- nothing is refused where no test applies
pub none-applies : (ts : List Test) → Each (λ t. t.applies ≡ false) ts → refused_by ts ≡ None
unfolding refused_by
none-applies [] h = refl
none-applies (t ∷ ts) h = refused-later t ts h.0 ∙ none-applies ts h.1

pub not-refused : (ts : List Test) → refused_by ts ≡ None → Each (λ t. t.applies ≡ false) ts
not-refused [] e = tt
not-refused (t ∷ ts) e = go t.applies refl (not-refused ts)
  where
    go : (b : Bool) → t.applies ≡ b → (refused_by ts ≡ None → Each (λ u. u.applies ≡ false) ts) → Each (λ u. u.applies ≡ false) (t ∷ ts)
    go true a rest = absurd (none-some t.refusal (sym e ∙ refused-now t ts a))
    go false a rest = (a, rest (sym (refused-later t ts a) ∙ e))

-- "If several apply, the lowest number is answered": r applies, and no test with a lower number does
pub data Applies (r : Refusal) : List Test → Type 0 where
  here : {t : Test} {ts : List Test} → t.refusal ≡ r → t.applies ≡ true → Applies r (t ∷ ts)
  further : {t : Test} {ts : List Test} → Applies r ts → Applies r (t ∷ ts)

pub record Lowest (ts : List Test) (r : Refusal) : Type 0 where
  pub applies : Applies r ts
  pub lower : Each (λ t. number_of t.refusal < number_of r → t.applies ≡ false) ts

abbrev before : Test → Test → Bool
before t u = ltb (number_of t.refusal) (number_of u.refusal)

rest-in-order : (t : Test) (ts : List Test) → in_order (t ∷ ts) ≡ true → in_order ts ≡ true
unfolding in_order
rest-in-order t [] o = refl
rest-in-order t (u ∷ ts) o = and_right (before t u) _ o

-- every later test has a larger number
later-larger : (t : Test) (ts : List Test) → in_order (t ∷ ts) ≡ true → Each (λ u. number_of t.refusal < number_of u.refusal) ts
unfolding in_order
later-larger t [] o = tt
later-larger t (u ∷ ts) o =
    let next = ltb-true _ _ (and_left (before t u) _ o) in
    (next, every_map (λ v l. lt_trans next l) ts (later-larger u ts (and_right (before t u) _ o)))

applies-among : (P : ℕ → Type 0) {r : Refusal} {ts : List Test} → Applies r ts → Each (λ t. P (number_of t.refusal)) ts → P (number_of r)
applies-among P (here e a) h = rw (← e) h.0
applies-among P (further a) h = applies-among P a h.1

pub answered-lowest : (ts : List Test) {r : Refusal} → in_order ts ≡ true → refused_by ts ≡ Some r → Lowest ts r
unfolding refused_by
answered-lowest [] {r} o e = absurd (none-some r e)
answered-lowest (t ∷ ts) {r} o e = go t.applies refl (answered-lowest ts (rest-in-order t ts o))
  where
    go : (b : Bool) → t.applies ≡ b → (refused_by ts ≡ Some r → Lowest ts r) → Lowest (t ∷ ts) r
    go true a rest =
        let same = same_Some t.refusal r (sym (refused-now t ts a) ∙ e) in
        let number : number_of t.refusal ≡ number_of r = ap number_of same in
        record {
          applies = here same a;
          lower = (λ l. absurd (omega arith), every_map (λ u larger l. absurd (omega arith)) ts (later-larger t ts o));
        }
    go false a rest =
        let found = rest (sym (refused-later t ts a) ∙ e) in
        record { applies = further found.applies; lower = (λ l. a, found.lower) }

pub lowest-answered : (ts : List Test) {r : Refusal} → in_order ts ≡ true → Lowest ts r → refused_by ts ≡ Some r
lowest-answered ts {r} o l = go ts o l.applies l.lower
  where
    go : (us : List Test) → in_order us ≡ true → Applies r us → Each (λ t. number_of t.refusal < number_of r → t.applies ≡ false) us → refused_by us ≡ Some r
    go [] p a lower = elim a [ ]
    go (t ∷ us) p (here e a) lower = refused-now t us a ∙ ap Some e
    go (t ∷ us) p (further a) lower =
        let larger = applies-among (λ n. number_of t.refusal < n) a (later-larger t us p) in
        refused-later t us (lower.0 larger) ∙ go us (rest-in-order t us p) a lower.1

-- the calls that refuse only an unsound record
module _ (a changed : Arena) where
  pub unsound-refused : sound_of a ≡ false → answered (refused_by (state_test a ∷ [])) a changed ≡ record { answer = Err State; arena = a }
  unfolding answered
  unsound-refused e = ap (λ r. answered r a changed) (refused-now (state_test a) [] (false-not e))

  pub sound-done : sound_of a ≡ true → answered (refused_by (state_test a ∷ [])) a changed ≡ record { answer = Ok tt; arena = changed }
  unfolding answered refused_by
  sound-done e = ap (λ r. answered r a changed) (refused-later (state_test a) [] (true-not e))
