-- Document 01, "Copy in, fill" and "Lending a block".
use Rattle.std.specs.Prelude.{ℕ, List, [], ◌∷◌, length, replicate, Option, None, Some, Err, Ok}
use Rattle.arena.specs.declared.Arena.{Arena}
use Rattle.arena.specs.declared.Refusal.{Refusal}
use Rattle.arena.specs.Record.{held_of}
use Rattle.arena.specs.Refusals.{Test, refused_by, Answer}
use Rattle.arena.specs.Sound.{state_test}
use Rattle.calls.specs.Bytes.{written, part, after_given}
use Rattle.calls.specs.Tests.{region_test, size_test, align_test, block_test}
use Rattle.calls.specs.Allocate.{allocate_of}

-- "allocate by source length or size and an alignment, then write the whole block"
unfoldable pub copy_in_bytes : Arena → List ℕ → List ℕ → ℕ → List ℕ
copy_in_bytes a bytes source align =
    after_given (allocate_of a (length bytes) (length source) align).answer (λ at. written bytes at source) bytes

unfoldable pub fill_bytes : Arena → List ℕ → ℕ → ℕ → ℕ → List ℕ
fill_bytes a bytes size align value =
    after_given (allocate_of a (length bytes) size align).answer (λ at. written bytes at (replicate size value)) bytes

abbrev pub lend_tests : Arena → ℕ → ℕ → ℕ → ℕ → List Test
lend_tests a lent offset size align =
    state_test a ∷ (region_test a lent ∷ (size_test size ∷ (align_test align ∷ (block_test (held_of a) offset size align ∷ []))))

-- "a call beside it says the number"
unfoldable pub lend_answer : Option Refusal → Answer
lend_answer (Some r) = Err r
lend_answer None = Ok tt

unfoldable pub lend_of : Arena → ℕ → ℕ → ℕ → ℕ → Answer
lend_of a lent offset size align = lend_answer (refused_by (lend_tests a lent offset size align))

-- "exactly those bytes; refused, the part lent is empty"
unfoldable pub lent_part : Answer → List ℕ → ℕ → ℕ → List ℕ
lent_part (Ok u) bytes offset size = part bytes offset size
lent_part (Err r) bytes offset size = []

-- "a block's own bytes": where the lent part begins in the region; refused, the empty part is at its beginning
unfoldable pub lent_from : Answer → ℕ → ℕ
lent_from (Ok u) offset = offset
lent_from (Err r) offset = 0
