-- The region's bytes after a call: "No call changes any byte but the destination of a copy, fill or clear".
use Rattle.std.specs.Prelude.{ℕ, ◌+◌, List, ◌++◌, length, take, drop, Err, Ok}
use Rattle.arena.specs.Refusals.{Given}

-- the bytes with these written from an offset on
unfoldable pub written : List ℕ → ℕ → List ℕ → List ℕ
written bytes at new = take at bytes ++ (new ++ drop (at + length new) bytes)

-- n bytes of the region
abbrev pub part : List ℕ → ℕ → ℕ → List ℕ
part bytes at n = take n (drop at bytes)

-- where a part of the region that begins at an offset stands: in the region's own allocation, so far on from its first byte
abbrev pub stands_at : ℕ × ℕ → ℕ → ℕ × ℕ
stands_at first at = (first.0, at + first.1)

-- "carried over as if first read whole": n bytes from one offset to another
unfoldable pub carried : List ℕ → ℕ → ℕ → ℕ → List ℕ
carried bytes from to n = written bytes to (part bytes from n)

-- the bytes after a call: what serving makes of them at the given offset, or, refused, as they were
unfoldable pub after_given : Given → (ℕ → List ℕ) → List ℕ → List ℕ
after_given (Ok offset) make bytes = make offset
after_given (Err r) make bytes = bytes
