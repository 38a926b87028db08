-- Document 01, "Both sides of the line" and the replay example: the starred cases, and a few of bytes, cancel and reset, as one table. What speaks of
-- calls is computed through `run`.
use Rattle.std.specs.Prelude.{ℕ, Bool, true, false, ◌&&◌, List, [], ◌∷◌, map, eqb, length, replicate}
use Rattle.arena.specs.Record.{held_of}
use Rattle.arena.specs.Sizing.{usable_for, usable}
use Rattle.calls.specs.Bytes.{part}
use Rattle.calls.specs.Allocate.{allocate_of}
use Rattle.sequence.specs.History.{State, Call, allocate, with_token, copy_in, free, cancel, grow, grow_zeroed, shrink, write, set_limit, reset}
use Rattle.sequence.specs.History.{run, created}
use Rattle.sequence.specs.Room.{number_given}

abbrev pub same : List ℕ → List ℕ → Bool
same [] [] = true
same [] (y ∷ ys) = false
same (x ∷ xs) [] = false
same (x ∷ xs) (y ∷ ys) = eqb x y && same xs ys

-- after these calls, in a new arena with capacity 0 over so many zeros
abbrev pub after : ℕ → ℕ → List Call → State
after minimum region calls = run (created minimum 0 (replicate region 0)) calls

abbrev pub usual : List Call → State
usual = after 1 4096

-- the live blocks' offsets, the one last touched first
abbrev pub offsets : State → List ℕ → Bool
offsets s are = same (map (λ b. b.offset) s.ledger) are

-- the held chunks' starts, sizes and pointers, newest first
abbrev pub chunks : State → List ℕ → List ℕ → List ℕ → Bool
chunks s starts sizes pointers =
    same (map (λ c. c.start) (held_of s.arena)) starts
    && (same (map (λ c. c.size) (held_of s.arena)) sizes && same (map (λ c. c.pointer) (held_of s.arena)) pointers)

-- a request is refused by ROOM
abbrev pub no_room : State → ℕ → ℕ → Bool
no_room s size align = eqb (number_given (allocate_of s.arena (length s.bytes) size align).answer) 8

-- n bytes of the region
abbrev pub bytes : State → ℕ → List ℕ → Bool
bytes s at are = same (part s.bytes at (length are)) are

-- "a chunk of 448 held, full"
abbrev pub full : ℕ → State
full limit = usual (allocate 448 1 ∷ set_limit limit ∷ [])

abbrev pub cases : List Bool
cases =
    -- usable sizes
    eqb (usable_for 448) 448
    ∷ eqb (usable_for 449) 960
    ∷ eqb (usable_for 4032) 4032
    ∷ eqb (usable_for 4033) 8128
    ∷ eqb (usable_for 4096) 8128
    -- the replay example: minimum 1, region 65,536
    ∷ offsets (after 1 65536 (allocate 10 1 ∷ [])) (438 ∷ [])
    ∷ offsets (after 1 65536 (allocate 10 1 ∷ allocate 8 8 ∷ [])) (424 ∷ 438 ∷ [])
    ∷ offsets (after 1 65536 (allocate 10 1 ∷ allocate 8 8 ∷ free 0 ∷ [])) (438 ∷ [])
    ∷ offsets (after 1 65536 (allocate 10 1 ∷ allocate 8 8 ∷ free 0 ∷ allocate 6 1 ∷ [])) (426 ∷ 438 ∷ [])
    ∷ offsets (after 1 65536 (allocate 10 1 ∷ allocate 8 8 ∷ free 0 ∷ allocate 6 1 ∷ grow 0 20 1 ∷ [])) (412 ∷ 438 ∷ [])
    ∷ chunks (after 1 65536 (allocate 10 1 ∷ allocate 8 8 ∷ free 0 ∷ allocate 6 1 ∷ grow 0 20 1 ∷ [])) (0 ∷ []) (448 ∷ []) (412 ∷ [])
    -- region 495 and 496, size 1
    ∷ no_room (after 1 495 []) 1 1
    ∷ offsets (after 1 496 (allocate 1 1 ∷ [])) (447 ∷ [])
    -- limits; under the first the rungs are 448, 448 and 192, then 56 < 64
    ∷ no_room (usual (set_limit 100 ∷ [])) 64 1
    ∷ same (map (λ base. usable base 64 1) (448 ∷ 224 ∷ 112 ∷ [])) (448 ∷ 448 ∷ 192 ∷ [])
    ∷ chunks (usual (set_limit 200 ∷ allocate 64 1 ∷ [])) (0 ∷ []) (192 ∷ []) (128 ∷ [])
    ∷ chunks (usual (set_limit 64 ∷ allocate 40 1 ∷ [])) (0 ∷ []) (64 ∷ []) (24 ∷ [])
    ∷ no_room (usual (set_limit 64 ∷ [])) 64 1
    ∷ chunks (usual (set_limit 10 ∷ allocate 0 1 ∷ [])) (0 ∷ []) (0 ∷ []) (0 ∷ [])
    -- a chunk of 448 held, full, request 500
    ∷ no_room (full 1407) 500 1
    ∷ offsets (usual (allocate 448 1 ∷ set_limit 1408 ∷ allocate 500 1 ∷ [])) (956 ∷ 0 ∷ [])
    ∷ chunks (usual (allocate 448 1 ∷ set_limit 1408 ∷ allocate 500 1 ∷ [])) (496 ∷ 0 ∷ []) (960 ∷ 448 ∷ []) (956 ∷ 0 ∷ [])
    ∷ no_room (full 448) 500 1
    ∷ offsets (usual (allocate 448 1 ∷ set_limit 100 ∷ allocate 500 1 ∷ [])) (956 ∷ 0 ∷ [])
    -- size 3, align 8: offset 440; freed, pointer 443
    ∷ offsets (usual (allocate 3 8 ∷ [])) (440 ∷ [])
    ∷ chunks (usual (allocate 3 8 ∷ free 0 ∷ [])) (0 ∷ []) (448 ∷ []) (443 ∷ [])
    -- shrink newest, align 1: 5 to 3 stays; 5 to 2 goes up 3; 1 to 0 goes up 1; minimum 8, 16 to 7 goes up 8
    ∷ offsets (usual (allocate 5 1 ∷ shrink 0 3 1 ∷ [])) (443 ∷ [])
    ∷ offsets (usual (allocate 5 1 ∷ shrink 0 2 1 ∷ [])) (446 ∷ [])
    ∷ offsets (usual (allocate 1 1 ∷ shrink 0 0 1 ∷ [])) (448 ∷ [])
    ∷ offsets (after 8 4096 (allocate 16 1 ∷ shrink 0 7 1 ∷ [])) (440 ∷ [])
    -- what a grow carries downwards over its own bytes, what it clears, and what a shrink carries upwards
    ∷ bytes (usual (copy_in (1 ∷ 2 ∷ 3 ∷ []) 1 ∷ grow 0 5 1 ∷ [])) 443 (1 ∷ 2 ∷ 3 ∷ 2 ∷ 3 ∷ [])
    ∷ bytes (usual (copy_in (1 ∷ 2 ∷ 3 ∷ []) 1 ∷ grow_zeroed 0 5 1 ∷ [])) 443 (1 ∷ 2 ∷ 3 ∷ 0 ∷ 0 ∷ [])
    ∷ bytes (usual (copy_in (1 ∷ 2 ∷ 3 ∷ 4 ∷ 5 ∷ []) 1 ∷ shrink 0 2 1 ∷ [])) 446 (1 ∷ 2 ∷ [])
    ∷ bytes (usual (allocate 4 1 ∷ write 0 1 (7 ∷ 8 ∷ []) ∷ [])) 444 (0 ∷ 7 ∷ 8 ∷ 0 ∷ [])
    -- a cancel goes back to the pointer before its allocation, and a reset to the end of the current chunk
    ∷ chunks (usual (allocate 10 1 ∷ with_token 8 8 ∷ cancel 0 ∷ [])) (0 ∷ []) (448 ∷ []) (438 ∷ [])
    ∷ chunks (usual (allocate 448 1 ∷ allocate 500 1 ∷ reset ∷ [])) (496 ∷ []) (960 ∷ []) (1456 ∷ [])
    ∷ []
