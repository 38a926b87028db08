-- A file fed window by window, however it is cut and whatever room the output has: the statement that every way of going through it comes to the
-- definition. Bytes that were not taken may stand at the front of the next window; nothing here asks for it, so that a way of going on is any row of windows.
use Rattle.std.specs.Prelude.{ℕ, ◌+◌, ◌≤◌, ◌<◌, Bool, true, List, [], ◌∷◌, ◌++◌, ◌≡◌, length, take, ltb, None}
use Rattle.requests.specs.Front.{unfinished, front_of}
use Rattle.requests.specs.Header.{Memory, header_size, most_region, memory_for}
use Rattle.requests.specs.Machine.{Stage, heading, running, stopped, ending_text}
use Rattle.requests.specs.Replay.{closed, replay_of}
use Rattle.requests.specs.Window.{line_room}
use Rattle.requests.specs.Feed.{Stepped, step_at, last_number, ready, final_text}

-- a window, and the room of the output that it is fed with
pub record Piece : Type 0 where
  pub window : List ℕ
  pub room : ℕ

-- the bytes that were taken and the text that was written so far, and where the machine stands
pub record Gone : Type 0 where
  pub taken : List ℕ
  pub text : List ℕ
  pub stage : Stage
  pub number : ℕ
  pub memory : Memory

abbrev pub begun : List ℕ → Gone
begun lent = record { taken = []; text = []; stage = heading; number = 1; memory = memory_for lent None }

abbrev pub after : Gone → List ℕ → Stepped → Gone
after g window s =
    record {
      taken = g.taken ++ take s.taken window;
      text = g.text ++ s.after.text;
      stage = s.after.stage;
      number = s.after.number;
      memory = s.after.memory;
    }

unfoldable pub gone_on : List ℕ → Gone → List Piece → Gone
gone_on lent g [] = g
gone_on lent g (p ∷ ps) =
    gone_on lent (after g p.window (step_at g.stage lent g.number g.memory p.window p.room)) ps

-- what may be left when the input ends: bytes that feeding takes nothing of
unfoldable pub is_rest : Stage → List ℕ → Bool
is_rest heading rest = ltb (length rest) header_size
is_rest running rest = unfinished (front_of rest)
is_rest stopped rest = true

-- however the file was cut, its text and its memory at the end are those of the definition
unfoldable pub AnyPieces : Type 0
AnyPieces =
    (lent : List ℕ) (pieces : List Piece) (rest : List ℕ) →
    let g = gone_on lent (begun lent) pieces in
    is_rest g.stage rest ≡ true → closed (g.text ++ ending_text g.stage g.number rest) g.memory ≡ replay_of lent (g.taken ++ rest)

-- with room for a line, a window that nothing is taken of is such a rest
unfoldable pub NothingTaken : Type 0
NothingTaken =
    (stage : Stage) (lent : List ℕ) (n : ℕ) (m : Memory) (window : List ℕ) (room : ℕ) → line_room ≤ room →
    (step_at stage lent n m window room).taken ≡ 0 → is_rest stage window ≡ true

-- with the longest region lent, and fewer bytes fed than the last number, every window finds the run ready: `feed` takes what the statements above say
unfoldable pub StaysReady : Type 0
StaysReady =
    (lent : List ℕ) (pieces : List Piece) (window : List ℕ) → most_region ≤ length lent →
    let g = gone_on lent (begun lent) pieces in
    length g.taken + length window < last_number → ready g.memory.arena g.number (length lent) (length window) ≡ true

-- and what `finish` writes then ends the text of the definition
unfoldable pub WholeText : Type 0
WholeText =
    (lent : List ℕ) (pieces : List Piece) (rest : List ℕ) →
    let g = gone_on lent (begun lent) pieces in
    is_rest g.stage rest ≡ true →
    g.text ++ final_text true g.stage g.number g.memory.arena rest ≡ (replay_of lent (g.taken ++ rest)).text
