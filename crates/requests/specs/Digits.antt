-- The numbers of this crate, said a second way, so that none can be another together with its code.
use Rattle.std.specs.Prelude.{ℕ, ◌+◌, ◌*◌, ◌-◌, ◌^◌, ◌<◌, Bool, true, ◌&&◌, List, [], ◌∷◌, ◌≡◌, leb, get_or}
use Rattle.requests.specs.Text.{decimal}
use Rattle.requests.specs.Window.{line_room}
use Rattle.requests.specs.Feed.{last_number, end_room}

-- the number that digits say, after one that was said before them
unfoldable pub value_from : ℕ → List ℕ → ℕ
value_from n [] = n
value_from n (d ∷ ds) = value_from (n * 10 + (d - 48)) ds

-- `0` to `9`
abbrev pub is_digit : ℕ → Bool
is_digit d = leb 48 d && leb d 57

unfoldable pub all_digits : List ℕ → Bool
all_digits [] = true
all_digits (d ∷ ds) = is_digit d && all_digits ds

-- a printed number reads back, is of digits alone, and begins with no needless 0
unfoldable pub ReadsBack : Type 0
ReadsBack =
    (n : ℕ) → n < 10 ^ 20 → (value_from 0 (decimal n) ≡ n) × (all_digits (decimal n) ≡ true) × (0 < n → leb 49 (get_or (decimal n) 0 0) ≡ true)

unfoldable pub ZeroPrinted : Type 0
ZeroPrinted = decimal 0 ≡ 48 ∷ []

-- the last number that is counted to, and the bytes of the output that a line and the last lines may take
unfoldable pub Counted : Type 0
Counted = (last_number ≡ 2 ^ 64 - 1) × (line_room ≡ 2 ^ 6) × (end_room ≡ 2 ^ 7)
