-- Document 01, "Allocate".
use Rattle.std.specs.Prelude.{ℕ, ◌-◌, max, Bool, false, ◌&&◌, List, [], ◌∷◌, leb, eqb, Option, None, Some, option_map, Err, Ok}
use Rattle.rounding.specs.First.{only}
use Rattle.rounding.specs.Round.{round_down, round_up}
use Rattle.arena.specs.declared.Head.{Head}
use Rattle.arena.specs.declared.Arena.{Arena}
use Rattle.arena.specs.declared.Chunk.{Chunk}
use Rattle.arena.specs.declared.Refusal.{Refusal}
use Rattle.arena.specs.declared.Refusal.TheVariants.{Room}
use Rattle.arena.specs.Record.{with_pointer, held_of, holding}
use Rattle.arena.specs.Refusals.{Test, refused_by, Allocation}
use Rattle.arena.specs.Sound.{state_test}
use Rattle.arena.specs.Ladder.{ladder}
use Rattle.calls.specs.Tests.{region_test, size_test, align_test}

-- a block's offset, and the held chunks once it is given
pub record Taken : Type 0 where
  pub offset : ℕ
  pub chunks : List Chunk

-- the block is at the current pointer
unfoldable pub at_pointer : List Chunk → ℕ → Bool
at_pointer [] offset = false
at_pointer (c ∷ cs) offset = eqb offset c.pointer

-- "Needed = size rounded up to max(align, minimum)"
abbrev pub needed : ℕ → ℕ → ℕ → ℕ
needed minimum size align = round_up size (max align minimum)

-- "Round the current pointer down to align; if it isn't below start and needed fits above start, the new pointer and the block are that
-- less needed"
unfoldable pub chunk_gives : ℕ → Chunk → ℕ → ℕ → Option ℕ
chunk_gives minimum c size align =
    only
    (leb c.start (round_down c.pointer align)
    && leb (needed minimum size align) (round_down c.pointer align - c.start))
    (round_down c.pointer align - needed minimum size align)

unfoldable pub current_gives : ℕ → List Chunk → ℕ → ℕ → Option Taken
current_gives minimum [] size align = None
current_gives minimum (c ∷ cs) size align =
    option_map (λ p. record { offset = p; chunks = with_pointer c p ∷ cs }) (chunk_gives minimum c size align)

-- a new chunk becomes current, and gives the block
unfoldable pub new_chunk_gives : ℕ → List Chunk → Option Chunk → ℕ → ℕ → Option Taken
new_chunk_gives minimum cs None size align = None
new_chunk_gives minimum cs (Some c) size align = current_gives minimum (c ∷ cs) size align

-- "Otherwise the ladder"
unfoldable pub or_ladder : Head → List Chunk → ℕ → ℕ → Option Taken → Option Taken
or_ladder h cs size align (Some taken) = Some taken
or_ladder h cs size align None = new_chunk_gives h.minimum cs (ladder h cs size align) size align

unfoldable pub allocate_in : Head → List Chunk → ℕ → ℕ → Option Taken
allocate_in h cs size align = or_ladder h cs size align (current_gives h.minimum cs size align)

-- what a call that gives out a block answers: its refusal, ROOM where "the rules serve nothing", or the block
unfoldable pub given : Option Refusal → Arena → Option Taken → Allocation
given (Some r) a taken = record { answer = Err r; arena = a }
given None a None = record { answer = Err Room; arena = a }
given None a (Some t) = record { answer = Ok t.offset; arena = holding a.head t.chunks }

abbrev pub request_tests : Arena → ℕ → ℕ → ℕ → List Test
request_tests a lent size align = state_test a ∷ (region_test a lent ∷ (size_test size ∷ (align_test align ∷ [])))

unfoldable pub allocate_of : Arena → ℕ → ℕ → ℕ → Allocation
allocate_of a lent size align =
    given (refused_by (request_tests a lent size align)) a (allocate_in a.head (held_of a) size align)
