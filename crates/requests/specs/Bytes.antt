-- Document 01, "The replay program": "All numbers big-endian".
use Rattle.std.specs.Prelude.{ℕ, ◌+◌, ◌*◌, List, get_or}

-- the byte at a place, and 0 past the end
abbrev pub byte_at : List ℕ → ℕ → ℕ
byte_at bytes i = get_or bytes i 0

-- a number with one byte more
abbrev pub then_byte : ℕ → ℕ → ℕ
then_byte number byte = number * 256 + byte

-- the 4-byte number at a place
unfoldable pub number32 : List ℕ → ℕ → ℕ
number32 bytes i = then_byte (then_byte (then_byte (byte_at bytes i) (byte_at bytes (i + 1))) (byte_at bytes (i + 2))) (byte_at bytes (i + 3))
