-- Feeding the machine a window of the file at a time. How much is taken and written at once decides nothing of document 01: the machine, fed the bytes
-- that were taken, comes to the same (Pieces.antt).
use Rattle.std.specs.Prelude.{ℕ, ◌-◌, Bool, true, false, ◌&&◌, cond, List, [], ◌++◌, ◌≡◌, length, take, drop, leb}
use Rattle.arena.specs.declared.Arena.{Arena}
use Rattle.arena.specs.Record.{holding}
use Rattle.arena.specs.Sound.{sound_of}
use Rattle.arena.specs.Creation.{fresh_head}
use Rattle.requests.specs.declared.Stage.{Stage as Code-as-Stage}
use Rattle.requests.specs.declared.Stage.TheVariants.{Heading, Running, Stopped}
use Rattle.requests.specs.declared.machine.State.{State}
use Rattle.requests.specs.declared.machine.Fed.{Fed}
use Rattle.requests.specs.Front.{Front, nothing, part, bad, whole, front_of}
use Rattle.requests.specs.Header.{Memory, header_size, most_region, header_of}
use Rattle.requests.specs.Parsed.{bad_record}
use Rattle.requests.specs.Text.{ending_line, held_line}
use Rattle.requests.specs.Machine.{Stage, heading, running, stopped, Machine, machine_at, headed, ending_text}
use Rattle.requests.specs.declared.window.Progress.{Progress}
use Rattle.requests.specs.Window.{memory_of, Passed, line_room, passed_of, Through}
use Rattle.requests.specs.Inner.{Put}

-- what a window comes to: the machine, whose text is the window's own, and the bytes that were taken
pub record Stepped : Type 0 where
  pub after : Machine
  pub taken : ℕ

abbrev pub stepped_to : Machine → ℕ → Stepped
stepped_to after taken = record { after = after; taken = taken }

abbrev pub stays : Stage → ℕ → Memory → Stepped
stays stage n m = stepped_to (machine_at stage n m [] []) 0

abbrev pub is_bad : Front → Bool
is_bad nothing = false
is_bad part = false
is_bad bad = true
is_bad (whole size r) = false

-- the records that were passed; a bad one after them stops the run, and the rest of the window is swallowed
unfoldable pub after_passed : Bool → Passed → ℕ → Stepped
after_passed true p size = stepped_to (machine_at stopped p.number p.memory [] (p.text ++ ending_line p.number bad_record)) size
after_passed false p size = stepped_to (machine_at running p.number p.memory [] p.text) p.taken

-- a bad record comes next, and its line has room
abbrev pub bad_next : ℕ → List ℕ → Passed → Bool
bad_next room window p = leb line_room (room - length p.text) && is_bad (front_of (drop p.taken window))

unfoldable pub run_step : ℕ → List ℕ → Passed → Stepped
run_step room window p = after_passed (bad_next room window p) p (length window)

unfoldable pub step_at : Stage → List ℕ → ℕ → Memory → List ℕ → ℕ → Stepped
step_at heading lent n m window room =
    cond (leb header_size (length window) && leb line_room room)
    (stepped_to (headed lent (header_of window)) header_size)
    (stays heading n m)
step_at running lent n m window room = run_step room window (passed_of room n m window)
step_at stopped lent n m window room = stepped_to (machine_at stopped n m [] []) (length window)

-- the last number that the code can count to
abbrev pub last_number : ℕ
last_number = 18446744073709551615

-- a sound record, bytes for its region and for the longest, and a number that can count every request of the window
unfoldable pub ready : Arena → ℕ → ℕ → ℕ → Bool
ready a n lent window =
    leb most_region lent && (leb a.head.region lent && (leb n (last_number - window) && sound_of a))

-- what is not ready stays
unfoldable pub step_of : Bool → Stage → List ℕ → ℕ → Memory → List ℕ → ℕ → Stepped
step_of true stage lent n m window room = step_at stage lent n m window room
step_of false stage lent n m window room = stays stage n m

-- what the end of the input adds; the text fits in this many bytes
abbrev pub end_room : ℕ
end_room = 128

unfoldable pub final_text : Bool → Stage → ℕ → Arena → List ℕ → List ℕ
final_text true stage n a rest = ending_text stage n rest ++ held_line a
final_text false stage n a rest = []

-- the stage that a value of the code's type says
unfoldable pub stage_said : Code-as-Stage → Stage
stage_said Heading = heading
stage_said Running = running
stage_said Stopped = stopped

-- the record, and as much of the lent bytes as its region has
abbrev pub memory_in : Arena → List ℕ → Memory
memory_in a lent = memory_of a (take a.head.region lent)

abbrev pub start_state : State
start_state = record { stage = Heading; number = 1; arena = holding (fresh_head 0 1) [] }

-- a window run in the region's part of the lent bytes
pub record ThroughLent (p : Passed) (lent₀ out₀ : List ℕ) (got : Progress) (lent out : List ℕ) : Type 0 where
  pub through : Through p out₀ got (take got.arena.head.region lent) out
  pub beyond : drop got.arena.head.region lent ≡ drop got.arena.head.region lent₀

-- the code's state, the lent bytes and the output say this; beyond the region no lent byte has changed
pub record Came (s : Stepped) (lent₀ out₀ : List ℕ) (got : Fed) (lent out : List ℕ) : Type 0 where
  pub stage : stage_said got.state.stage ≡ s.after.stage
  pub number : got.state.number ≡ s.after.number
  pub memory : memory_in got.state.arena lent ≡ s.after.memory
  pub beyond : drop got.state.arena.head.region lent ≡ drop got.state.arena.head.region lent₀
  pub taken : got.taken ≡ s.taken
  pub put : Put out₀ 0 s.after.text out got.written
