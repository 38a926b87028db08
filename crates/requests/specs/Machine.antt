-- The replay program as a machine that is fed a byte at a time: what running a file in pieces comes to, however it is cut.
use Rattle.std.specs.Prelude.{ℕ, ◌+◌, cond, List, [], ◌∷◌, ◌++◌, length, ltb, Option, None, Some}
use Rattle.requests.specs.Front.{Front, nothing, part, bad, whole, front_of}
use Rattle.requests.specs.Header.{Header, Memory, header_size, header_of, memory_for}
use Rattle.requests.specs.Parsed.{Ending, complete, cut_off, bad_record}
use Rattle.requests.specs.Run.{run}
use Rattle.requests.specs.Text.{bad_header_text, line_of, ending_line}
use Rattle.requests.specs.Replay.{Replayed, closed}

-- the header is not whole yet, requests are read, or a bad header or record has stopped the run
pub data Stage : Type 0 where
  heading : Stage
  running : Stage
  stopped : Stage

-- the next request's number, the memory, the bytes of a header or record that is not whole yet, and the text so far
pub record Machine : Type 0 where
  pub stage : Stage
  pub number : ℕ
  pub memory : Memory
  pub pending : List ℕ
  pub text : List ℕ

abbrev pub machine_at : Stage → ℕ → Memory → List ℕ → List ℕ → Machine
machine_at stage number memory pending text =
    record { stage = stage; number = number; memory = memory; pending = pending; text = text }

-- before the first byte
abbrev pub start : List ℕ → Machine
start lent = machine_at heading 1 (memory_for lent None) [] []

-- a whole header opens the run or stops it
unfoldable pub headed : List ℕ → Option Header → Machine
headed lent None = machine_at stopped 1 (memory_for lent None) [] bad_header_text
headed lent (Some h) = machine_at running 1 (memory_for lent (Some h)) [] []

unfoldable pub header_fed : List ℕ → List ℕ → Machine
header_fed lent pending =
    cond (ltb (length pending) header_size) (machine_at heading 1 (memory_for lent None) pending []) (headed lent (header_of pending))

-- a whole record is run and its line is added; a bad one stops the run
unfoldable pub record_fed : Front → ℕ → Memory → List ℕ → List ℕ → Machine
record_fed nothing n m pending text = machine_at running n m pending text
record_fed part n m pending text = machine_at running n m pending text
record_fed bad n m pending text = machine_at stopped n m [] (text ++ ending_line n bad_record)
record_fed (whole size r) n m pending text =
    machine_at running (n + 1) (run r m).memory [] (text ++ line_of n (run r m).reply)

-- "both stop the run"; document 02, C-19: "Bytes after `bad header` or `bad record` are swallowed and change nothing"
unfoldable pub fed_at : List ℕ → Stage → Machine → ℕ → Machine
fed_at lent heading s b = header_fed lent (s.pending ++ (b ∷ []))
fed_at lent running s b =
    record_fed (front_of (s.pending ++ (b ∷ []))) s.number s.memory (s.pending ++ (b ∷ [])) s.text
fed_at lent stopped s b = s

unfoldable pub fed : List ℕ → Machine → List ℕ → Machine
fed lent s [] = s
fed lent s (b ∷ bytes) = fed lent (fed_at lent s.stage s b) bytes

-- how a run ends that has this at the front of the bytes that it has not run
unfoldable pub ending_at : Front → Ending
ending_at nothing = complete
ending_at part = cut_off
ending_at bad = bad_record
ending_at (whole size r) = complete

-- what the end of the input adds to the text: a header that is not whole is short, and a record that is not whole is cut off
unfoldable pub ending_text : Stage → ℕ → List ℕ → List ℕ
ending_text heading n pending = bad_header_text
ending_text running n pending = ending_line n (ending_at (front_of pending))
ending_text stopped n pending = []

unfoldable pub ended : Machine → Replayed
ended s = closed (s.text ++ ending_text s.stage s.number s.pending) s.memory
