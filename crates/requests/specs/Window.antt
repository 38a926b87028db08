-- What running a window of the file comes to. How much of it is run at once decides nothing of document 01: the machine, fed the bytes that were taken,
-- comes to the same (`passed-runs`).
use Rattle.std.specs.Prelude.{ℕ, zero, suc, ◌+◌, ◌-◌, cond, List, [], ◌++◌, ◌≡◌, length, drop, leb}
use Rattle.arena.specs.declared.Arena.{Arena}
use Rattle.requests.specs.declared.window.Progress.{Progress}
use Rattle.requests.specs.Front.{Front, nothing, part, bad, whole, front_of}
use Rattle.requests.specs.Header.{Memory}
use Rattle.requests.specs.Run.{run}
use Rattle.requests.specs.Text.{line_of}
use Rattle.requests.specs.Inner.{Put}

abbrev pub memory_of : Arena → List ℕ → Memory
memory_of a bytes = record { arena = a; bytes = bytes }

-- the next request's number and the memory, the bytes that were taken, and their lines
pub record Passed : Type 0 where
  pub number : ℕ
  pub memory : Memory
  pub taken : ℕ
  pub text : List ℕ

abbrev pub passed_to : ℕ → Memory → ℕ → List ℕ → Passed
passed_to number memory taken text = record { number = number; memory = memory; taken = taken; text = text }

-- a record's bytes and its line, before what follows them
abbrev pub ahead : ℕ → List ℕ → Passed → Passed
ahead size line p = passed_to p.number p.memory (size + p.taken) (line ++ p.text)

-- any line fits in this many bytes
abbrev pub line_room : ℕ
line_room = 64

-- a whole record is run; on says what follows, from a number, a memory, the record's bytes and its line
unfoldable pub passed_by : Front → ℕ → Memory → (ℕ → Memory → ℕ → List ℕ → Passed) → Passed
passed_by nothing n m on = passed_to n m 0 []
passed_by part n m on = passed_to n m 0 []
passed_by bad n m on = passed_to n m 0 []
passed_by (whole size r) n m on =
    ahead size (line_of n (run r m).reply) (on (n + 1) (run r m).memory size (line_of n (run r m).reply))

-- while a whole, good record stands at the front and the output has room for a line; no more records than turns
unfoldable pub passed_within : ℕ → ℕ → ℕ → Memory → List ℕ → Passed
passed_within zero room n m window = passed_to n m 0 []
passed_within (suc turns) room n m window =
    cond (leb line_room room)
    (passed_by (front_of window) n m (λ n' m' size line. passed_within turns (room - length line) n' m' (drop size window)))
    (passed_to n m 0 [])

-- a record takes a byte at least, so there are turns enough
unfoldable pub passed_of : ℕ → ℕ → Memory → List ℕ → Passed
passed_of room n m window = passed_within (length window) room n m window

-- the code's progress, the region's bytes and the output say this
pub record Through (p : Passed) (out₀ : List ℕ) (got : Progress) (bytes out : List ℕ) : Type 0 where
  pub number : got.number ≡ p.number
  pub memory : memory_of got.arena bytes ≡ p.memory
  pub taken : got.taken ≡ p.taken
  pub put : Put out₀ 0 p.text out got.written
