-- Document 01, "Shrink".
use Rattle.std.specs.Prelude.{ℕ, ◌+◌, ◌-◌, ◌/◌, max, ◌&&◌, cond, List, [], ◌∷◌, length, leb, ltb, Option, Some}
use Rattle.rounding.specs.Round.{multiple, round_down}
use Rattle.arena.specs.declared.Head.{Head}
use Rattle.arena.specs.declared.Arena.{Arena}
use Rattle.arena.specs.declared.Chunk.{Chunk}
use Rattle.arena.specs.declared.Refusal.TheVariants.{Direction}
use Rattle.arena.specs.Record.{with_pointer, held_of}
use Rattle.arena.specs.Refusals.{Test, test, refused_by, Allocation}
use Rattle.arena.specs.Sound.{state_test}
use Rattle.calls.specs.Bytes.{carried, after_given}
use Rattle.calls.specs.Tests.{region_test, sizes_test, aligns_test, block_test}
use Rattle.calls.specs.Allocate.{Taken, at_pointer, allocate_in, given}

-- the block stays where it is
abbrev pub stays : List Chunk → ℕ → Option Taken
stays cs offset = Some (record { offset = offset; chunks = cs })

-- "d = (old - new) rounded down to max(new align, minimum)"
abbrev pub given_up : ℕ → ℕ → ℕ → ℕ → ℕ
given_up minimum old new new_align = round_down (old - new) (max new_align minimum)

-- the pointer and the block at it go up by d
unfoldable pub moved_up : List Chunk → ℕ → ℕ → Option Taken
moved_up [] offset d = stays [] offset
moved_up (c ∷ cs) offset d = Some (record { offset = offset + d; chunks = with_pointer c (offset + d) ∷ cs })

-- "At the current pointer with d >= (old + 1) / 2, rounded down: the pointer and block go up by d. Else same offset"
unfoldable pub shrunk_in_place : List Chunk → ℕ → ℕ → ℕ → Option Taken
shrunk_in_place cs offset old d = cond (at_pointer cs offset && leb ((old + 1) / 2) d) (moved_up cs offset d) (stays cs offset)

-- "If old align < new align: same offset if it is aligned already, else a fresh block"
unfoldable pub shrink_in : Head → List Chunk → ℕ → ℕ → ℕ → ℕ → ℕ → Option Taken
shrink_in h cs offset old old_align new new_align =
    cond (ltb old_align new_align)
    (cond (multiple new_align offset) (stays cs offset) (allocate_in h cs new new_align))
    (shrunk_in_place cs offset old (given_up h.minimum old new new_align))

abbrev pub shrink_tests : Arena → ℕ → ℕ → ℕ → ℕ → ℕ → ℕ → List Test
shrink_tests a lent offset old old_align new new_align =
    state_test a
    ∷ (region_test a lent
    ∷ (sizes_test old new
    ∷ (aligns_test old_align new_align ∷ (block_test (held_of a) offset old old_align ∷ (test Direction (ltb old new) ∷ [])))))

unfoldable pub shrink_of : Arena → ℕ → ℕ → ℕ → ℕ → ℕ → ℕ → Allocation
shrink_of a lent offset old old_align new new_align =
    given (refused_by (shrink_tests a lent offset old old_align new new_align)) a
    (shrink_in a.head (held_of a) offset old old_align new new_align)

-- "new-size bytes copied", "bytes carried"; a block that stays keeps them where they are
unfoldable pub shrink_bytes : Arena → List ℕ → ℕ → ℕ → ℕ → ℕ → ℕ → List ℕ
shrink_bytes a bytes offset old old_align new new_align =
    after_given (shrink_of a (length bytes) offset old old_align new new_align).answer (λ to. carried bytes offset to new) bytes
