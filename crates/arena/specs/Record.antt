-- Document 01, "What comes over": the record, and its table seen as the list of held chunks, newest first. The first of the list is current.
use Rattle.std.specs.Prelude.{ℕ, zero, suc, ◌+◌, List, [], ◌∷◌, length, get_or, set, replicate}
use Rattle.arena.specs.declared.Head.{Head}
use Rattle.arena.specs.declared.Arena.{Arena}
use Rattle.arena.specs.declared.Chunk.{Chunk}
use Rattle.arena.specs.Numbers.{footer, places}

-- a chunk's end
abbrev pub end_of : Chunk → ℕ
end_of c = c.start + c.size

-- the first byte past a chunk and its reserved 48
abbrev pub past_of : Chunk → ℕ
past_of c = end_of c + footer

-- a chunk with its pointer elsewhere
abbrev pub with_pointer : Chunk → ℕ → Chunk
with_pointer c p = record { start = c.start; size = c.size; pointer = p }

-- the record of these parts
abbrev pub record_of : Head → List ℕ → List ℕ → List ℕ → Arena
record_of h starts sizes pointers = record { head = h; starts = starts; sizes = sizes; pointers = pointers }

-- place i of the table
abbrev pub chunk_at : List ℕ → List ℕ → List ℕ → ℕ → Chunk
chunk_at starts sizes pointers i = record { start = get_or starts i 0; size = get_or sizes i 0; pointer = get_or pointers i 0 }

-- the first k places of the table, newest first
unfoldable pub chunks_of : List ℕ → List ℕ → List ℕ → ℕ → List Chunk
chunks_of starts sizes pointers zero = []
chunks_of starts sizes pointers (suc k) = chunk_at starts sizes pointers k ∷ chunks_of starts sizes pointers k

-- the held chunks of a record
abbrev pub held_of : Arena → List Chunk
held_of a = chunks_of a.starts a.sizes a.pointers a.head.count

-- a column of the table that holds these chunks, with zeros in its unused places
unfoldable pub column : (Chunk → ℕ) → List Chunk → List ℕ
column part [] = replicate places 0
column part (c ∷ cs) = set (column part cs) (length cs) (part c)

-- the record with this region length, minimum and limit that holds these chunks and nothing else
unfoldable pub holding : Head → List Chunk → Arena
holding h cs =
    record_of
    (record { region = h.region; minimum = h.minimum; limited = h.limited; limit = h.limit; count = length cs })
    (column (λ c. c.start) cs)
    (column (λ c. c.size) cs)
    (column (λ c. c.pointer) cs)
