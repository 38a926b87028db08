-- Document 01, "The replay program": the header, and the memory that a run starts with.
use Rattle.std.specs.Prelude.{ℕ, Bool, ◌&&◌, List, [], length, take, leb, eqb, Option, None, Some}
use Rattle.rounding.specs.First.{only}
use Rattle.arena.specs.declared.Arena.{Arena}
use Rattle.arena.specs.Record.{holding}
use Rattle.arena.specs.Sound.{allowed_minimum}
use Rattle.arena.specs.Creation.{fresh_head, created_of}
use Rattle.requests.specs.Bytes.{byte_at, number32}

-- "byte 1 (version), minimum alignment (1 byte), region length (4 bytes, at most 65,536)"
abbrev pub header_size : ℕ
header_size = 6

-- the longest of them
abbrev pub most_region : ℕ
most_region = 65536

pub record Header : Type 0 where
  pub minimum : ℕ
  pub region : ℕ

unfoldable pub good_header : List ℕ → Bool
good_header bytes =
    leb header_size (length bytes)
    && (eqb (byte_at bytes 0) 1 && (allowed_minimum (byte_at bytes 1) && leb (number32 bytes 2) most_region))

-- the header that the bytes begin with; "a wrong or short header" is none
unfoldable pub header_of : List ℕ → Option Header
header_of bytes = only (good_header bytes) (record { minimum = byte_at bytes 1; region = number32 bytes 2 })

-- the record, and the bytes of its region
pub record Memory : Type 0 where
  pub arena : Arena
  pub bytes : List ℕ

-- "The arena starts with capacity 0; after a bad header the record is a refused creation's". The region is the first of the lent bytes
unfoldable pub memory_for : List ℕ → Option Header → Memory
memory_for lent None = record { arena = holding (fresh_head 0 1) []; bytes = [] }
memory_for lent (Some h) = record { arena = (created_of h.region h.minimum 0).arena; bytes = take h.region lent }
