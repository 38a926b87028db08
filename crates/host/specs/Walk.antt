-- Document 01, "Walk": "each chunk's bytes from pointer to end, newest first. Refused, it gives nothing and says the number".
use Rattle.std.specs.Prelude.{ℕ, zero, suc, ◌-◌, cond, List, [], ◌∷◌, map, length, drop, ltb, eqb, Err, Ok}
use Rattle.arena.specs.declared.Arena.{Arena}
use Rattle.arena.specs.declared.Chunk.{Chunk}
use Rattle.arena.specs.Numbers.{places}
use Rattle.arena.specs.Record.{end_of, held_of}
use Rattle.arena.specs.Refusals.{Test, number_of, refused_by, Answer}
use Rattle.arena.specs.Sound.{state_test}
use Rattle.calls.specs.Bytes.{part}
use Rattle.calls.specs.Tests.{region_test}
use Rattle.calls.specs.Write.{lend_answer}
use Rattle.host.specs.declared.SaidStep.{SaidStep}

abbrev pub walk_tests : Arena → ℕ → List Test
walk_tests a lent = state_test a ∷ (region_test a lent ∷ [])

-- "says the number"
unfoldable pub walk_answer : Arena → ℕ → Answer
walk_answer a lent = lend_answer (refused_by (walk_tests a lent))

-- "bytes from pointer to end"
abbrev pub chunk_part : List ℕ → Chunk → List ℕ
chunk_part bytes c = part bytes c.pointer (end_of c - c.pointer)

-- "each chunk's bytes .., newest first. Refused, it gives nothing"
unfoldable pub parts_of : Answer → List ℕ → List Chunk → List (List ℕ)
parts_of (Ok u) bytes cs = map (chunk_part bytes) cs
parts_of (Err r) bytes cs = []

abbrev pub walk_parts : Arena → List ℕ → List (List ℕ)
walk_parts a bytes = parts_of (walk_answer a (length bytes)) bytes (held_of a)

abbrev pub step : ℕ → ℕ → ℕ → ℕ → SaidStep
step refusal left offset length = record { refusal = refusal; left = left; offset = offset; length = length }

-- what a step says of the chunks that are left
unfoldable pub said_step : Answer → List Chunk → SaidStep
said_step (Err r) cs = step (number_of r) 0 0 0
said_step (Ok u) [] = step 0 0 0 0
said_step (Ok u) (c ∷ cs) = step 0 (length (c ∷ cs)) c.pointer (end_of c - c.pointer)

-- the step at an index: 0 is the newest chunk's
unfoldable pub step_of : Arena → ℕ → ℕ → SaidStep
step_of a lent index = said_step (walk_answer a lent) (drop index (held_of a))

-- the bytes that a step hands out
abbrev pub step_part : List ℕ → SaidStep → List ℕ
step_part bytes s = part bytes s.offset s.length

-- the index after this one; past the table's places nothing is left, and it stays
unfoldable pub next_index : ℕ → ℕ
next_index index = cond (ltb index places) (suc index) index

-- what n steps from an index on hand out, while something is left
unfoldable pub handed_out : ℕ → Arena → List ℕ → ℕ → List (List ℕ)
handed_out zero a bytes index = []
handed_out (suc n) a bytes index =
    cond (eqb (step_of a (length bytes) index).left 0)
    []
    (step_part bytes (step_of a (length bytes) index) ∷ handed_out n a bytes (next_index index))
