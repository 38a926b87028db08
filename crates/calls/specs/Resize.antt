-- Document 01, "Resize" (`realloc`), which keeps the alignment.
use Rattle.std.specs.Prelude.{ℕ, min, not, ◌&&◌, cond, List, [], ◌∷◌, length, leb, eqb, Option}
use Rattle.arena.specs.declared.Head.{Head}
use Rattle.arena.specs.declared.Arena.{Arena}
use Rattle.arena.specs.declared.Chunk.{Chunk}
use Rattle.arena.specs.declared.Refusal.TheVariants.{Block}
use Rattle.arena.specs.Record.{held_of}
use Rattle.arena.specs.Refusals.{Test, test, refused_by, Allocation}
use Rattle.arena.specs.Sound.{state_test}
use Rattle.calls.specs.Bytes.{carried, after_given}
use Rattle.calls.specs.Tests.{region_test, sizes_test, align_test, acceptable}
use Rattle.calls.specs.Allocate.{Taken, allocate_in, given}
use Rattle.calls.specs.Grow.{grow_in}
use Rattle.calls.specs.Shrink.{shrink_in}

-- "Old size 0: a fresh allocation of the new size. New <= old: shrink. Else grow"
unfoldable pub resize_in : Head → List Chunk → ℕ → ℕ → ℕ → ℕ → Option Taken
resize_in h cs offset old align new =
    cond (eqb old 0)
    (allocate_in h cs new align)
    (cond (leb new old) (shrink_in h cs offset old align new align) (grow_in h cs offset old align new align))

-- "Old size 0: .. offset not tested"
abbrev pub resize_tests : Arena → ℕ → ℕ → ℕ → ℕ → ℕ → List Test
resize_tests a lent offset old align new =
    state_test a
    ∷ (region_test a lent
    ∷ (sizes_test old new
    ∷ (align_test align ∷ (test Block (not (eqb old 0) && not (acceptable (held_of a) offset old align)) ∷ []))))

unfoldable pub resize_of : Arena → ℕ → ℕ → ℕ → ℕ → ℕ → Allocation
resize_of a lent offset old align new =
    given (refused_by (resize_tests a lent offset old align new)) a (resize_in a.head (held_of a) offset old align new)

-- what both sizes have is carried: the old bytes of a grow, the first new-size bytes of a shrink, none of a fresh block
unfoldable pub resize_bytes : Arena → List ℕ → ℕ → ℕ → ℕ → ℕ → List ℕ
resize_bytes a bytes offset old align new =
    after_given (resize_of a (length bytes) offset old align new).answer (λ to. carried bytes offset to (min old new)) bytes
