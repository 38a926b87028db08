-- The ledger: what the owners know of their live blocks. It is kept from the owners' side, and never read back from the region.
use Rattle.std.specs.Prelude.{ℕ, zero, suc, ◌+◌, ◌-◌, List, [], ◌∷◌, ◌++◌, map, length, take, drop, replicate, Option, None, Some, option_map}
use Rattle.calls.specs.declared.Token.{Token}

-- a live block as last given; what its owner put in each of its bytes, `None` where it never wrote; and its token, where it has one
pub record Live : Type 0 where
  pub offset : ℕ
  pub size : ℕ
  pub align : ℕ
  pub put : List (Option ℕ)
  pub token : Option Token

abbrev pub block : ℕ → ℕ → ℕ → List (Option ℕ) → Option Token → Live
block offset size align put token = record { offset = offset; size = size; align = align; put = put; token = token }

-- the bytes of a new block: none is known
abbrev pub unknown : ℕ → List (Option ℕ)
unknown size = replicate size None

-- bytes that the owner knows
abbrev pub known : List ℕ → List (Option ℕ)
known new = map Some new

-- what a block that grows, shrinks or is resized keeps: its first bytes, as many as the new size has, and beyond the old size `fresh` ones
unfoldable pub kept : Live → ℕ → Option ℕ → List (Option ℕ)
kept b new fresh = take new b.put ++ replicate (new - b.size) fresh

-- what a block holds once its owner has written these from a byte of it on
unfoldable pub noted : List (Option ℕ) → ℕ → List ℕ → List (Option ℕ)
noted put from new = take from put ++ (known new ++ drop (from + length new) put)

-- one of a list, and the others
pub record Chosen (A : Type 0) : Type 0 where
  pub one : A
  pub others : List A

abbrev pub chosen_of : {A : Type 0} → A → List A → Chosen A
chosen_of one others = record { one = one; others = others }

-- the one at this place; past the end of the list there is none
unfoldable pub choose : {A : Type 0} → List A → ℕ → Option (Chosen A)
choose [] place = None
choose (x ∷ xs) zero = Some (chosen_of x xs)
choose (x ∷ xs) (suc place) = option_map (λ c. chosen_of c.one (x ∷ c.others)) (choose xs place)
