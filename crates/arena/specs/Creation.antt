-- Document 01, "Creation", "Reset" and the limit calls: what each answers, and the record after it.
use Rattle.std.specs.Prelude.{ℕ, not, cond, List, [], ◌∷◌, ltb, eqb, Option, None, Some, option_map, Ok, Err, ⊤}
use Rattle.arena.specs.declared.Head.{Head}
use Rattle.arena.specs.declared.Arena.{Arena}
use Rattle.arena.specs.declared.Chunk.{Chunk}
use Rattle.arena.specs.declared.Outcome.{Outcome}
use Rattle.arena.specs.declared.Refusal.{Refusal}
use Rattle.arena.specs.declared.Refusal.TheVariants.{Region, Size, Align, Room}
use Rattle.arena.specs.Numbers.{default_size, most}
use Rattle.arena.specs.Record.{end_of, with_pointer, held_of, holding}
use Rattle.arena.specs.Refusals.{Test, test, refused_by, answered}
use Rattle.arena.specs.Sound.{allowed_minimum, state_test}
use Rattle.arena.specs.Ladder.{rung_chunk}

-- a region length and a minimum alignment, with no limit and no chunk
abbrev pub fresh_head : ℕ → ℕ → Head
fresh_head region minimum = record { region = region; minimum = minimum; limited = 0; limit = 0; count = 0 }

-- "A refused creation returns a record with no chunk, minimum 1, no limit, region length 0"
unfoldable pub refused_creation : Refusal → Outcome ⊤
refused_creation r = record { answer = Err r; arena = holding (fresh_head 0 1) [] }

abbrev pub creation_tests : ℕ → ℕ → ℕ → List Test
creation_tests region minimum capacity =
    test Region (ltb most region) ∷ (test Size (ltb most capacity) ∷ (test Align (not (allowed_minimum minimum)) ∷ []))

-- "Creation with capacity 0 holds no chunk. Otherwise one chunk with base 448, size the capacity, alignment the minimum; no ladder, no limit"
unfoldable pub first_chunks : Head → ℕ → Option (List Chunk)
first_chunks h capacity =
    cond (eqb capacity 0) (Some []) (option_map (λ c. c ∷ []) (rung_chunk h [] capacity h.minimum default_size))

unfoldable pub created_with : Head → Option (List Chunk) → Outcome ⊤
created_with h (Some cs) = record { answer = Ok tt; arena = holding h cs }
created_with h None = refused_creation Room

unfoldable pub creation : Option Refusal → Head → ℕ → Outcome ⊤
creation (Some r) h capacity = refused_creation r
creation None h capacity = created_with h (first_chunks h capacity)

unfoldable pub created_of : ℕ → ℕ → ℕ → Outcome ⊤
created_of region minimum capacity =
    creation (refused_by (creation_tests region minimum capacity)) (fresh_head region minimum) capacity

-- the record under a limit, and the record under none
abbrev pub limited_to : Arena → ℕ → ℕ → Arena
limited_to a limited limit =
    record {
      head =
          record {
            region = a.head.region;
            minimum = a.head.minimum;
            limited = limited;
            limit = limit;
            count = a.head.count;
          };
      starts = a.starts;
      sizes = a.sizes;
      pointers = a.pointers;
    }

unfoldable pub set_limit_of : Arena → ℕ → Outcome ⊤
set_limit_of a limit = answered (refused_by (state_test a ∷ [])) a (limited_to a 1 limit)

unfoldable pub no_limit_of : Arena → Outcome ⊤
no_limit_of a = answered (refused_by (state_test a ∷ [])) a (limited_to a 0 0)

-- "Reset keeps only the current chunk, pointer at its end"
unfoldable pub kept_by_reset : List Chunk → List Chunk
kept_by_reset [] = []
kept_by_reset (c ∷ cs) = with_pointer c (end_of c) ∷ []

-- ", and the limit"
unfoldable pub reset_of : Arena → Outcome ⊤
reset_of a = answered (refused_by (state_test a ∷ [])) a (holding a.head (kept_by_reset (held_of a)))
