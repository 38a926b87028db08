-- Document 01, "The replay program": what a file gives, from its bytes and the bytes that are lent for its region.
use Rattle.std.specs.Prelude.{ℕ, List, ◌++◌, drop, Option, None, Some}
use Rattle.requests.specs.Header.{Header, Memory, header_size, header_of, memory_for}
use Rattle.requests.specs.Parsed.{Parsed, Ending, parsed_of}
use Rattle.requests.specs.Run.{Answers, answers}
use Rattle.requests.specs.Text.{bad_header_text, lines_from, held_line}

-- the whole text, and the memory at the end
pub record Replayed : Type 0 where
  pub text : List ℕ
  pub memory : Memory

-- a text, and the last line after it
abbrev pub closed : List ℕ → Memory → Replayed
closed text m = record { text = text ++ held_line m.arena; memory = m }

-- the lines of the answers, numbered from n
abbrev pub closed_answers : ℕ → Answers → Ending → Replayed
closed_answers n a e = closed (lines_from n a.replies e) a.memory

-- requests and their ending, run from a memory
abbrev pub replayed_from : ℕ → Memory → Parsed → Replayed
replayed_from n m p = closed_answers n (answers p.requests m) p.ending

-- "A wrong or short header gives only `0 bad header`" and the last line
unfoldable pub replayed_by : Option Header → Memory → List ℕ → Replayed
replayed_by None m bytes = closed bad_header_text m
replayed_by (Some h) m bytes = replayed_from 1 m (parsed_of bytes)

unfoldable pub replay_of : List ℕ → List ℕ → Replayed
replay_of lent bytes = replayed_by (header_of bytes) (memory_for lent (header_of bytes)) (drop header_size bytes)
