-- Document 01, "Refusal numbers": each refusal's number, and which is answered where several apply.
use Rattle.std.specs.Prelude.{ℕ, Bool, true, cond, ◌&&◌, List, [], ◌∷◌, ltb, Option, None, Some, Result, Ok, Err, ⊤}
use Rattle.arena.specs.declared.Arena.{Arena}
use Rattle.arena.specs.declared.Outcome.{Outcome}
use Rattle.arena.specs.declared.Refusal.{Refusal}
use Rattle.arena.specs.declared.Refusal.TheVariants.{State, Region, Size, Align, Block, Direction, Token, Room}

abbrev pub number_of : Refusal → ℕ
number_of State = 1
number_of Region = 2
number_of Size = 3
number_of Align = 4
number_of Block = 5
number_of Direction = 6
number_of Token = 7
number_of Room = 8

-- what a call answers that gives out no block, and one that does: its offset
abbrev pub Answer : Type 0
Answer = Result ⊤ Refusal

abbrev pub Given : Type 0
Given = Result ℕ Refusal

-- the same with the record after it
abbrev pub Allocation : Type 0
Allocation = Outcome ℕ

-- a refusal, and whether it applies to the call at hand
pub record Test : Type 0 where
  pub refusal : Refusal
  pub applies : Bool

abbrev pub test : Refusal → Bool → Test
test r b = record { refusal = r; applies = b }

-- "If several apply, the lowest number is answered": of tests that stand in number order, the first that applies
unfoldable pub refused_by : List Test → Option Refusal
refused_by [] = None
refused_by (t ∷ ts) = cond t.applies (Some t.refusal) (refused_by ts)

-- the tests stand in number order
unfoldable pub in_order : List Test → Bool
in_order [] = true
in_order (t ∷ []) = true
in_order (t ∷ (u ∷ ts)) = ltb (number_of t.refusal) (number_of u.refusal) && in_order (u ∷ ts)

-- "A refusal returns the record it was handed": else the call is done, and the record is the changed one
unfoldable pub answered : Option Refusal → Arena → Arena → Outcome ⊤
answered (Some r) handed changed = record { answer = Err r; arena = handed }
answered None handed changed = record { answer = Ok tt; arena = changed }
