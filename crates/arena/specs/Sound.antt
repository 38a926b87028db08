-- Document 01, "Sound": what every call tests of the record that it is handed. Any 64-bit numbers may stand there.
use Rattle.std.specs.Prelude.{ℕ, Bool, true, ◌&&◌, ◌||◌, not, List, [], ◌∷◌, length, drop, leb, eqb}
use Rattle.rounding.specs.Every.{every}
use Rattle.rounding.specs.Round.{multiple, one_bit}
use Rattle.arena.specs.declared.Head.{Head}
use Rattle.arena.specs.declared.Arena.{Arena}
use Rattle.arena.specs.declared.Chunk.{Chunk}
use Rattle.arena.specs.Numbers.{step, places, most, largest_align, largest_minimum}
use Rattle.arena.specs.Record.{end_of, past_of, held_of}
use Rattle.arena.specs.Refusals.{Test, test}
use Rattle.arena.specs.declared.Refusal.TheVariants.{State}

-- "Alignments: powers of two, 1 to 4,096"
unfoldable pub allowed_align : ℕ → Bool
allowed_align a = one_bit a && leb a largest_align

-- "Minimum alignment: 1, 2, 4, 8 or 16"
unfoldable pub allowed_minimum : ℕ → Bool
allowed_minimum m = one_bit m && leb m largest_minimum

-- "Limit: none, or any 64-bit number": no limit has one form, two zeros
unfoldable pub limit_formed : Head → Bool
limit_formed h = eqb h.limited 1 || eqb h.limited 0 && eqb h.limit 0

-- "allowed minimum alignment and region length; at most 32 chunks", and the limit's form
unfoldable pub head_sound : Head → Bool
head_sound h = allowed_minimum h.minimum && (leb h.region most && (limit_formed h && leb h.count places))

-- "each start and n a multiple of 16; start + n + 48 within the region; start <= pointer <= end, pointer a multiple of the minimum"
unfoldable pub chunk_sound : ℕ → ℕ → Chunk → Bool
chunk_sound region minimum c =
    multiple step c.start
    && (multiple step c.size
    && (leb (past_of c) region
    && (leb c.start c.pointer && (leb c.pointer (end_of c) && multiple minimum c.pointer))))

-- the n + 48 bytes of two chunks do not overlap
unfoldable pub clear : Chunk → Chunk → Bool
clear c d = leb (past_of c) d.start || leb (past_of d) c.start

-- "no two chunks' n + 48 bytes overlap"
unfoldable pub apart : List Chunk → Bool
apart [] = true
apart (c ∷ cs) = every (clear c) cs && apart cs

-- "unused places zero": a column has 32 places, and those from the count on are zero
unfoldable pub unused_zero : ℕ → List ℕ → Bool
unused_zero count column = eqb (length column) places && every (λ x. eqb x 0) (drop count column)

unfoldable pub table_sound : Arena → Bool
table_sound a =
    unused_zero a.head.count a.starts
    && (unused_zero a.head.count a.sizes && unused_zero a.head.count a.pointers)

unfoldable pub sound_of : Arena → Bool
sound_of a =
    head_sound a.head
    && (table_sound a && (every (chunk_sound a.head.region a.head.minimum) (held_of a) && apart (held_of a)))

-- 1, STATE: "the record is unsound"
abbrev pub state_test : Arena → Test
state_test a = test State (not (sound_of a))
