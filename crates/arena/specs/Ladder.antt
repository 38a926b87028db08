-- Document 01, "Ladder": the bases that are tried for a new chunk, and the first that is served.
use Rattle.std.specs.Prelude.{ℕ, ◌+◌, ◌-◌, ◌*◌, ◌/◌, ◌^◌, max, ◌≡◌, Bool, true, ◌&&◌, ◌||◌, not, cond, List, [], ◌∷◌, length, leb, ltb, eqb, Option, None, option_map}
use Rattle.rounding.specs.First.{first}
use Rattle.arena.specs.declared.Head.{Head}
use Rattle.arena.specs.declared.Chunk.{Chunk}
use Rattle.arena.specs.Numbers.{default_size, places}
use Rattle.arena.specs.Sizing.{place_align, usable}
use Rattle.arena.specs.Placing.{lowest_place}

-- "Held bytes are the sum of n over held chunks"
unfoldable pub held_bytes : List Chunk → ℕ
held_bytes [] = 0
held_bytes (c ∷ cs) = c.size + held_bytes cs

-- "floor f = max(size, 448)"
abbrev pub floor_of : ℕ → ℕ
floor_of size = max size default_size

-- the current chunk's n, "where n counts as 0 with no chunk"
unfoldable pub current_size : List Chunk → ℕ
current_size [] = 0
current_size (c ∷ cs) = c.size

-- "First base is max(2 x current n, f)"
unfoldable pub first_base : List Chunk → ℕ → ℕ
first_base cs size = max (2 * current_size cs) (floor_of size)

-- "Each next base is half, rounded down": the base after k halvings
abbrev pub base_after : ℕ → ℕ → ℕ
base_after base k = base / 2 ^ k

abbrev pub is_limited : Head → Bool
is_limited h = eqb h.limited 1

-- "while all of these hold: there is a limit, size < limit, base >= size, limit < 448, held bytes 0"
unfoldable pub small_limit : Head → ℕ → ℕ → ℕ → Bool
small_limit h held size base =
    is_limited h && (ltb size h.limit && (leb size base && (ltb h.limit default_size && eqb held 0)))

-- "A rung is tried while base >= f, or while all of these hold"
unfoldable pub tried : Head → ℕ → ℕ → ℕ → Bool
tried h held size base = leb (floor_of size) base || small_limit h held size base

-- "its n is at most limit minus held"; "No limit, or a limit below the held bytes, counts as no limit"
unfoldable pub under_limit : Head → ℕ → ℕ → Bool
under_limit h held n = not (is_limited h) || (ltb h.limit held || leb n (h.limit - held))

-- a chunk of n at this offset, "pointer at its end"
abbrev pub new_chunk : ℕ → ℕ → Chunk
new_chunk n at = record { start = at; size = n; pointer = at + n }

-- "A rung is served when its n is at most limit minus held, the table has a place free, and the chunk can be placed"
unfoldable pub served_with : Head → List Chunk → ℕ → ℕ → Option Chunk
served_with h cs a n =
    cond (under_limit h (held_bytes cs) n && ltb (length cs) places)
    (option_map (new_chunk n) (lowest_place h.region cs a n))
    None

-- the chunk that a rung gives, where it is served
unfoldable pub rung_chunk : Head → List Chunk → ℕ → ℕ → ℕ → Option Chunk
rung_chunk h cs size align base = served_with h cs (place_align align) (usable base size align)

-- "The first served rung": 64 halvings bring every base to 0, and "after base 0 the ladder ends"
unfoldable pub ladder : Head → List Chunk → ℕ → ℕ → Option Chunk
ladder h cs size align =
    first 64
    (λ k.
    cond (tried h (held_bytes cs) size (base_after (first_base cs size) k))
    (rung_chunk h cs size align (base_after (first_base cs size) k))
    None)

-- a rung of the ladder, declared: a base that some number of halvings of the first base comes to, and that is tried
pub record Rung (h : Head) (cs : List Chunk) (size base : ℕ) : Type 0 where
  pub halvings : ℕ
  pub from_first : base ≡ base_after (first_base cs size) halvings
  pub is_tried : tried h (held_bytes cs) size base ≡ true
