-- The statement over every passage: whatever the reads gave, and however the writes took it, what has been written is the beginning of the definition's
-- text on the bytes that were read; the last lines come only after the end was seen; and once something went wrong nothing more is written.
use Rattle.std.specs.Prelude.{ℕ, ◌-◌, ◌^◌, ◌≤◌, ◌<◌, Bool, true, false, List, [], ◌++◌, ◌≡◌, length}
use Rattle.requests.specs.Machine.{machine_at, start, fed}
use Rattle.requests.specs.Replay.{replay_of}
use Rattle.requests.specs.Pieces.{is_rest}
use Rattle.relay.specs.declared.Next.{Next}
use Rattle.relay.specs.declared.Next.TheVariants.{Feed, Read, Write, Done, ReadFailed, WriteFailed}
use Rattle.relay.specs.Passage.{Passage, asked}
use Rattle.relay.specs.Event.{Event, ends, read_fails, write_fails, Sizes, after_event, passed}

-- the first bytes of a text
pub record Begins (front whole : List ℕ) : Type 0 where
  pub rest : List ℕ
  pub joined : front ++ rest ≡ whole

-- the bytes read are those that were taken and those in hand, and the machine, fed the former, stands here, with the text so far and nothing of an ending
pub record Standing (lent : List ℕ) (p : Passage) : Type 0 where
  pub taken : List ℕ
  pub all : taken ++ p.pending ≡ p.read
  pub machine : fed lent (start lent) taken ≡ machine_at p.stage p.number p.memory [] (p.written ++ p.text)

pub record Passing (lent : List ℕ) (input : ℕ) (p : Passage) : Type 0 where
  pub stands : p.ended ≡ false → Standing lent p
  -- whatever comes, the text so far is its beginning
  pub begins : p.ended ≡ false → (more : List ℕ) → Begins (p.written ++ p.text) (replay_of lent (p.read ++ more)).text
  pub whole : p.ended ≡ true → p.written ++ p.text ≡ (replay_of lent p.read).text
  -- a read, which may find the end, is asked for only once every line is written and every whole record is taken; and there is room for a byte
  pub reads : p.asks ≡ Read → (p.ended ≡ false) × (p.text ≡ []) × (is_rest p.stage p.pending ≡ true) × (length p.pending < input)
  -- it is done exactly when the end was seen and the whole text is written
  pub done : p.asks ≡ Done → (p.ended ≡ true) × (p.written ≡ (replay_of lent p.read).text)
  pub nothing_left : p.ended ≡ true → p.written ≡ (replay_of lent p.read).text → p.asks ≡ Done

-- with bytes for the longest region and room for the last lines, and fewer bytes read than requests can be counted
unfoldable pub EveryPassage : Type 0
EveryPassage =
    (input output : ℕ) (lent : List ℕ) (events : List Event) → 65536 ≤ length lent → 128 ≤ output →
    let p = passed input output lent events in length p.read < 2 ^ 64 - 1 → Passing lent input p

-- the end is seen by a read that was asked for and found it, and by nothing else
unfoldable pub EndSeen : Type 0
EndSeen =
    (z : Sizes) (p : Passage) (e : Event) → p.ended ≡ false → (after_event z p e).ended ≡ true → (p.asks ≡ Read) × (e ≡ ends)

-- a call that failed is not made again: nothing but what is told comes after it
unfoldable pub FailureStops : Type 0
FailureStops =
    (z : Sizes) (p : Passage) →
    (p.asks ≡ Read → after_event z p read_fails ≡ asked p ReadFailed) × (p.asks ≡ Write → after_event z p write_fails ≡ asked p WriteFailed)

unfoldable pub is_over : Next → Bool
is_over Feed = false
is_over Read = false
is_over Write = false
is_over next = true

-- once it is done, or something went wrong, nothing changes any more
unfoldable pub OverStays : Type 0
OverStays = (z : Sizes) (p : Passage) (e : Event) → is_over p.asks ≡ true → after_event z p e ≡ p
