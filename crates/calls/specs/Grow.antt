-- Document 01, "Grow".
use Rattle.std.specs.Prelude.{ℕ, ◌+◌, ◌-◌, ◌&&◌, cond, List, [], ◌∷◌, length, replicate, leb, ltb, Option, None, Some}
use Rattle.rounding.specs.Round.{round_up}
use Rattle.arena.specs.declared.Head.{Head}
use Rattle.arena.specs.declared.Arena.{Arena}
use Rattle.arena.specs.declared.Chunk.{Chunk}
use Rattle.arena.specs.declared.Refusal.TheVariants.{Direction}
use Rattle.arena.specs.Record.{held_of}
use Rattle.arena.specs.Refusals.{Test, test, refused_by, Allocation}
use Rattle.arena.specs.Sound.{state_test}
use Rattle.calls.specs.Bytes.{written, carried, after_given}
use Rattle.calls.specs.Tests.{region_test, sizes_test, aligns_test, block_test}
use Rattle.calls.specs.Allocate.{Taken, at_pointer, current_gives, allocate_in, given}

-- "If old align >= new align and the block is at the current pointer: allocate without the ladder (new size rounded up to the minimum, less
-- old size) at the old alignment; the result is the new block"
unfoldable pub grown_in_place : ℕ → List Chunk → ℕ → ℕ → ℕ → ℕ → ℕ → Option Taken
grown_in_place minimum cs offset old old_align new new_align =
    cond (leb new_align old_align && at_pointer cs offset) (current_gives minimum cs (round_up new minimum - old) old_align) None

-- "Otherwise, or if that doesn't fit, allocate afresh by the new layout"
unfoldable pub or_afresh : Head → List Chunk → ℕ → ℕ → Option Taken → Option Taken
or_afresh h cs size align (Some taken) = Some taken
or_afresh h cs size align None = allocate_in h cs size align

unfoldable pub grow_in : Head → List Chunk → ℕ → ℕ → ℕ → ℕ → ℕ → Option Taken
grow_in h cs offset old old_align new new_align =
    or_afresh h cs new new_align (grown_in_place h.minimum cs offset old old_align new new_align)

abbrev pub grow_tests : Arena → ℕ → ℕ → ℕ → ℕ → ℕ → ℕ → List Test
grow_tests a lent offset old old_align new new_align =
    state_test a
    ∷ (region_test a lent
    ∷ (sizes_test old new
    ∷ (aligns_test old_align new_align ∷ (block_test (held_of a) offset old old_align ∷ (test Direction (ltb new old) ∷ [])))))

unfoldable pub grow_of : Arena → ℕ → ℕ → ℕ → ℕ → ℕ → ℕ → Allocation
grow_of a lent offset old old_align new new_align =
    given (refused_by (grow_tests a lent offset old old_align new new_align)) a
    (grow_in a.head (held_of a) offset old old_align new new_align)

-- "The old bytes are carried over as if first read whole"
unfoldable pub grow_bytes : Arena → List ℕ → ℕ → ℕ → ℕ → ℕ → ℕ → List ℕ
grow_bytes a bytes offset old old_align new new_align =
    after_given (grow_of a (length bytes) offset old old_align new new_align).answer (λ to. carried bytes offset to old) bytes

-- "`grow_zeroed` then clears from old size to new size"
unfoldable pub grow_zeroed_bytes : Arena → List ℕ → ℕ → ℕ → ℕ → ℕ → ℕ → List ℕ
grow_zeroed_bytes a bytes offset old old_align new new_align =
    after_given (grow_of a (length bytes) offset old old_align new new_align).answer
    (λ to. written (carried bytes offset to old) (to + old) (replicate (new - old) 0))
    bytes
