-- What the contracts between our own functions say. Nothing of document 01 is decided here, and no function that a user calls cites it.
use Rattle.std.specs.Prelude.{ℕ, ◌≤◌, ◌<◌, ◌≡◌, Bool, true, false, ◌&&◌, cond, List, [], ◌∷◌, leb, Option, None, Some}
use Rattle.std.specs.Int.{◌∣◌}
use Rattle.rounding.specs.Every.{every, Each}
use Rattle.arena.specs.declared.Head.{Head}
use Rattle.arena.specs.declared.Arena.{Arena}
use Rattle.arena.specs.declared.Chunk.{Chunk}
use Rattle.arena.specs.declared.lent.Lent.{Lent}
use Rattle.arena.specs.declared.change.Change.{Change}
use Rattle.arena.specs.declared.change.Change.TheVariants.{Same, Moved, Added, Limited, Kept}
use Rattle.arena.specs.Numbers.{places, most}
use Rattle.arena.specs.Record.{past_of, with_pointer, record_of, held_of, holding}
use Rattle.arena.specs.Sound.{chunk_sound}
use Rattle.arena.specs.Placing.{misses}
use Rattle.arena.specs.Creation.{limited_to, kept_by_reset}

-- what the rules that take a new chunk lean on: the region is no longer than allowed, the table no fuller, and every held chunk stands in the
-- region with its 48
pub record Ready (h : Head) (cs : List Chunk) : Type 0 where
  pub region_bound : h.region ≤ most
  pub count_bound : h.count ≤ places
  pub inside : Each (λ c. past_of c ≤ h.region) cs

-- the same as a test
unfoldable pub is_ready : Head → List Chunk → Bool
is_ready h cs = leb h.region most && (leb h.count places && every (λ c. leb (past_of c) h.region) cs)

-- the record that is lent in these parts
abbrev pub lent_of : Lent → Arena
lent_of l = record_of l.head l.starts.now l.sizes.now l.pointers.now

-- the current chunk, if any is held
unfoldable pub current_of : List Chunk → Option Chunk
current_of [] = None
current_of (c ∷ cs) = Some c

-- the held chunks with the current pointer elsewhere
unfoldable pub moved_to : List Chunk → ℕ → List Chunk
moved_to [] p = []
moved_to (c ∷ cs) p = with_pointer c p ∷ cs

-- a sound record once a change is made; no chunk is added to a full table
unfoldable pub changed_by : Change → Arena → Arena
changed_by Same a = a
changed_by (Moved p) a = holding a.head (moved_to (held_of a) p)
changed_by (Added c) a = cond (leb places a.head.count) a (holding a.head (c ∷ held_of a))
changed_by (Limited limited limit) a = limited_to a limited limit
changed_by Kept a = holding a.head (kept_by_reset (held_of a))

-- what going once through the table from an offset comes to: a multiple at or past it, none between them free of the chunks, and the offset
-- itself only where it is free of them
pub record Passed (cs : List Chunk) (align length from to : ℕ) : Type 0 where
  pub multiple : align ∣ to
  pub onward : from ≤ to
  pub between : (x : ℕ) → align ∣ x → from ≤ x → x < to → every (misses x length) cs ≡ false
  pub stays : to ≡ from → every (misses from length) cs ≡ true

-- from the newest down, each chunk is sound below the start of the one taken after it
unfoldable pub ascending : ℕ → ℕ → List Chunk → Bool
ascending top minimum [] = true
ascending top minimum (c ∷ cs) = chunk_sound top minimum c && ascending c.start minimum cs
