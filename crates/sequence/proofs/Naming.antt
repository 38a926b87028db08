-- Every live block can be named, and nothing else: a place below the ledger's length has its block and leaves the others, and past it there is none. So
-- lists of calls are all the sequences that demand 3 speaks of. Assumes nothing.
use Prim.Native.Nat.{ℕ, zero, suc, ◌≤◌, ◌<◌}
use native.Mathlib.Nat.{le_of_suc-le-suc, not-suc-le-zero}
use mathlib.Core.List.{List, [], ◌∷◌, ◌++◌}
use Rattle.std.specs.Prelude.{None, Some, option_map}
use mathlib.Core.Path.{◌≡◌, refl, ap}
use lib.ListN.{length, get_or, take, drop}
use Rattle.sequence.specs.Ledger.{Chosen, chosen_of, choose}

module _ {A : Type 0} where
  pub named : (d : A) (xs : List A) (place : ℕ) → place < length xs →
      choose xs place ≡ Some (chosen_of (get_or xs place d) (take place xs ++ drop (suc place) xs))
  unfolding choose
  named d [] place l = absurd (not-suc-le-zero l)
  named d (x ∷ xs) zero l = refl
  named d (x ∷ xs) (suc place) l =
      ap (option_map (λ (c : Chosen A). chosen_of c.one (x ∷ c.others))) (named d xs place (le_of_suc-le-suc l))

  pub unnamed : (xs : List A) (place : ℕ) → length xs ≤ place → choose xs place ≡ None
  unfolding choose
  unnamed [] place l = refl
  unnamed (x ∷ xs) zero l = absurd (not-suc-le-zero l)
  unnamed (x ∷ xs) (suc place) l = ap (option_map (λ (c : Chosen A). chosen_of c.one (x ∷ c.others))) (unnamed xs place (le_of_suc-le-suc l))
