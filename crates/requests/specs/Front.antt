-- Document 01, "The replay program": what stands at the front of the bytes.
use Rattle.std.specs.Prelude.{ℕ, ◌+◌, Bool, true, false, cond, List, [], ◌∷◌, length, take, leb, Option, None, Some}
use Rattle.requests.specs.Bytes.{then_byte}
use Rattle.requests.specs.Request.{Request, request_of}

-- no byte, a part of a record, a whole record that says no request, or a request and the bytes that its record takes
pub data Front : Type 0 where
  nothing : Front
  part : Front
  bad : Front
  whole : ℕ → Request → Front

-- the record is not whole yet
abbrev pub unfinished : Front → Bool
unfinished nothing = true
unfinished part = true
unfinished bad = false
unfinished (whole size r) = false

-- a whole record, of this many bytes after its length number
unfoldable pub record_front : ℕ → Option Request → Front
record_front size None = bad
record_front size (Some r) = whole (2 + size) r

-- "2-byte length of what follows it"; a record is looked at only once it is whole, and then at its own bytes alone
unfoldable pub front_of : List ℕ → Front
front_of [] = nothing
front_of (high ∷ []) = part
front_of (high ∷ (low ∷ rest)) =
    cond (leb (then_byte high low) (length rest))
    (record_front (then_byte high low) (request_of (take (then_byte high low) rest)))
    part
