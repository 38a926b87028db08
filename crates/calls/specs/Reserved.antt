-- Document 01, "What comes over": "The 48 bytes after the end are the Rust footer's place (64-bit): reserved, never read or written".
use Rattle.std.specs.Prelude.{ℕ, ◌≤◌, ◌<◌, List, ◌∷◌, ◌⊎◌, ◌≡◌, length, get_or}
use Rattle.arena.specs.declared.Arena.{Arena}
use Rattle.arena.specs.declared.Chunk.{Chunk}
use Rattle.arena.specs.Record.{end_of, past_of, held_of}

-- the byte is one of the 48 after the end of one of the chunks
pub data Reserved (x : ℕ) : List Chunk → Type 0 where
  of_current : {c : Chunk} {cs : List Chunk} → end_of c ≤ x → x < past_of c → Reserved x (c ∷ cs)
  of_older : {c : Chunk} {cs : List Chunk} → Reserved x cs → Reserved x (c ∷ cs)

-- "never .. written": what is reserved by the record before a call or by the one after it stays as it was
abbrev pub NeverWritten : Arena → Arena → List ℕ → List ℕ → Type 0
NeverWritten before after bytes left = (x : ℕ) → Reserved x (held_of before) ⊎ Reserved x (held_of after) → get_or left x 0 ≡ get_or bytes x 0

-- two regions that differ in reserved bytes alone
pub record Alike (cs : List Chunk) (bytes others : List ℕ) : Type 0 where
  pub same_length : length bytes ≡ length others
  pub same : (x : ℕ) → (Reserved x cs → ⊥) → get_or bytes x 0 ≡ get_or others x 0

-- "never read": what a call leaves of two such regions differs there alone
abbrev pub NeverRead : Arena → (List ℕ → List ℕ) → Type 0
NeverRead before leaves = (bytes others : List ℕ) → Alike (held_of before) bytes others → Alike (held_of before) (leaves bytes) (leaves others)
