-- Document 01, "Free".
use Rattle.std.specs.Prelude.{ℕ, ◌+◌, cond, List, [], ◌∷◌, eqb, ⊤}
use Rattle.rounding.specs.Round.{round_up}
use Rattle.arena.specs.declared.Arena.{Arena}
use Rattle.arena.specs.declared.Chunk.{Chunk}
use Rattle.arena.specs.declared.Outcome.{Outcome}
use Rattle.arena.specs.Record.{with_pointer, held_of, holding}
use Rattle.arena.specs.Refusals.{Test, refused_by, answered}
use Rattle.arena.specs.Sound.{state_test}
use Rattle.calls.specs.Tests.{size_test, align_test, block_test}

-- "If the offset is the current pointer, pointer becomes offset + size rounded up to the minimum. Else nothing changes"
unfoldable pub freed : ℕ → List Chunk → ℕ → ℕ → List Chunk
freed minimum [] offset size = []
freed minimum (c ∷ cs) offset size =
    cond (eqb offset c.pointer) (with_pointer c (round_up (offset + size) minimum) ∷ cs) (c ∷ cs)

abbrev pub free_tests : Arena → ℕ → ℕ → ℕ → List Test
free_tests a offset size align =
    state_test a ∷ (size_test size ∷ (align_test align ∷ (block_test (held_of a) offset size align ∷ [])))

unfoldable pub free_of : Arena → ℕ → ℕ → ℕ → Outcome ⊤
free_of a offset size align =
    answered (refused_by (free_tests a offset size align)) a
    (holding a.head (freed a.head.minimum (held_of a) offset size))
