-- Document 01, "The replay program": the requests of the bytes after the header, and how they end.
use Rattle.std.specs.Prelude.{ℕ, zero, suc, List, [], ◌∷◌, length, drop}
use Rattle.requests.specs.Request.{Request}
use Rattle.requests.specs.Front.{Front, nothing, part, bad, whole, front_of}

-- the bytes end after a record, inside one, or a bad record stops the run
pub data Ending : Type 0 where
  complete : Ending
  cut_off : Ending
  bad_record : Ending

pub record Parsed : Type 0 where
  pub requests : List Request
  pub ending : Ending

abbrev pub ended : Ending → Parsed
ended e = record { requests = []; ending = e }

abbrev pub followed : Request → Parsed → Parsed
followed r p = record { requests = r ∷ p.requests; ending = p.ending }

-- what the front says, and the bytes past a whole record
unfoldable pub parsed_from : Front → (ℕ → Parsed) → Parsed
parsed_from nothing past = ended complete
parsed_from part past = ended cut_off
parsed_from bad past = ended bad_record
parsed_from (whole size r) past = followed r (past size)

-- no more records than turns are read
unfoldable pub parsed_within : ℕ → List ℕ → Parsed
parsed_within zero bytes = ended complete
parsed_within (suc turns) bytes = parsed_from (front_of bytes) (λ size. parsed_within turns (drop size bytes))

-- a record takes a byte at least, so there are turns enough
unfoldable pub parsed_of : List ℕ → Parsed
parsed_of bytes = parsed_within (length bytes) bytes
