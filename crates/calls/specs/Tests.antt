-- Document 01, "Refusal numbers": the tests that calls share, and "Acceptable block".
use Rattle.std.specs.Prelude.{ℕ, ◌+◌, Bool, ◌&&◌, ◌||◌, not, cond, List, leb, ltb, eqb}
use Rattle.rounding.specs.Every.{any}
use Rattle.rounding.specs.Round.{multiple}
use Rattle.arena.specs.declared.Arena.{Arena}
use Rattle.arena.specs.declared.Chunk.{Chunk}
use Rattle.arena.specs.declared.Refusal.TheVariants.{Region, Size, Align, Block}
use Rattle.arena.specs.Numbers.{most}
use Rattle.arena.specs.Record.{end_of}
use Rattle.arena.specs.Refusals.{Test, test}
use Rattle.arena.specs.Sound.{allowed_align}

-- 2, REGION: "the lent length differs from the record's"
abbrev pub region_test : Arena → ℕ → Test
region_test a lent = test Region (not (eqb lent a.head.region))

-- 3, SIZE: "a size, capacity or source length is over the maximum"; of two sizes, either
abbrev pub size_test : ℕ → Test
size_test size = test Size (ltb most size)

abbrev pub sizes_test : ℕ → ℕ → Test
sizes_test old new = test Size (ltb most old || ltb most new)

-- 4, ALIGN: "an alignment isn't allowed"; of two, either
abbrev pub align_test : ℕ → Test
align_test align = test Align (not (allowed_align align))

abbrev pub aligns_test : ℕ → ℕ → Test
aligns_test old new = test Align (not (allowed_align old) || not (allowed_align new))

-- "for size above 0, pointer <= offset and offset + size <= end in some held chunk; for size 0, start <= offset <= end"
unfoldable pub has_block : ℕ → ℕ → Chunk → Bool
has_block offset size c =
    cond (eqb size 0)
    (leb c.start offset && leb offset (end_of c))
    (leb c.pointer offset && leb (offset + size) (end_of c))

-- "Acceptable block (offset, size, align)"
unfoldable pub acceptable : List Chunk → ℕ → ℕ → ℕ → Bool
acceptable cs offset size align = multiple align offset && any (has_block offset size) cs

-- 5, BLOCK: "the block named, other than by a cancel, isn't acceptable"
abbrev pub block_test : List Chunk → ℕ → ℕ → ℕ → Test
block_test cs offset size align = test Block (not (acceptable cs offset size align))
