-- Document 01, "Placing": the lowest offset that is a multiple of a, with n + 48 bytes in the region meeting no held chunk.
use Rattle.std.specs.Prelude.{ℕ, suc, ◌+◌, ◌*◌, ◌/◌, Bool, ◌&&◌, ◌||◌, List, leb, Option}
use Rattle.rounding.specs.Every.{every}
use Rattle.rounding.specs.First.{only, first}
use Rattle.arena.specs.declared.Chunk.{Chunk}
use Rattle.arena.specs.Numbers.{footer}
use Rattle.arena.specs.Record.{past_of}

-- the length bytes at this offset meet no byte of the chunk and of its 48
unfoldable pub misses : ℕ → ℕ → Chunk → Bool
misses at length c = leb (at + length) c.start || leb (past_of c) at

-- a chunk of n, with its 48, can stand at this offset
unfoldable pub fits : ℕ → List Chunk → ℕ → ℕ → Bool
fits region cs n at = leb (at + (n + footer)) region && every (misses at (n + footer)) cs

-- the first of 0, a, 2a, .. at which it can
unfoldable pub lowest_place : ℕ → List Chunk → ℕ → ℕ → Option ℕ
lowest_place region cs a n = first (suc (region / a)) (λ k. only (fits region cs n (k * a)) (k * a))
