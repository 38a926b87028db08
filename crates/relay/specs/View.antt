-- What the code's relay and its buffers say of a passage.
use Rattle.std.specs.Prelude.{ℕ, ◌+◌, ◌-◌, ◌^◌, ◌≤◌, ◌<◌, Bool, true, false, cond, List, ◌⊎◌, ◌≡◌, length, drop, ltb}
use Rattle.calls.specs.Bytes.{part}
use Rattle.requests.specs.declared.machine.State.{State}
use Rattle.requests.specs.Feed.{stage_said, memory_in, start_state}
use Rattle.relay.specs.declared.Next.{Next}
use Rattle.relay.specs.declared.Next.TheVariants.{Feed, Read, Write, Done}
use Rattle.relay.specs.declared.Relay.{Relay}
use Rattle.relay.specs.Passage.{Passage, passage_at}
use Rattle.relay.specs.Event.{Event, sizes, after_event, passed}
use Rattle.relay.specs.Passing.{is_over}

abbrev pub relay_at : State → ℕ → ℕ → ℕ → ℕ → Bool → Next → Relay
relay_at state start filled from to ended next =
    record { state = state; start = start; filled = filled; from = from; to = to; is_ended = ended; next = next }

abbrev pub begun_relay : Relay
begun_relay = relay_at start_state 0 0 0 0 false Feed

-- the places lie in the buffers. A read that is asked for has room, so that one that gives nothing has found the end
pub record Fits (r : Relay) (input output : ℕ) : Type 0 where
  pub starts : r.start ≤ r.filled
  pub filled : r.filled ≤ input
  pub begins : r.from ≤ r.to
  pub ends : r.to ≤ output
  pub room : r.next ≡ Read → r.filled < input

-- the passage, with what was read and written before, which no buffer keeps
abbrev pub passage_of : List ℕ → List ℕ → Relay → List ℕ → List ℕ → List ℕ → Passage
passage_of read written r lent input output =
    passage_at read written (part input r.start (r.filled - r.start)) (part output r.from (r.to - r.from)) (stage_said r.state.stage)
    r.state.number (memory_in r.state.arena lent) (drop r.state.arena.head.region lent) r.is_ended r.next

-- the relay and the buffers show how far the passage has come
unfoldable pub Shows : Relay → List ℕ → List ℕ → List ℕ → Passage → Type 0
Shows r lent input output p = passage_of p.read p.written r lent input output ≡ p

abbrev pub asking : Relay → Next → Relay
asking r next = relay_at r.state r.start r.filled r.from r.to r.is_ended next

-- so many bytes more are in hand; no more than there is room for
unfoldable pub filled_by : Relay → ℕ → ℕ → Relay
filled_by r moved room =
    relay_at r.state r.start (cond (ltb moved (room - r.filled)) (r.filled + moved) room) r.from r.to r.is_ended Feed

-- so many bytes of the text are written; no more than there are
unfoldable pub written_by : Relay → ℕ → Relay
written_by r moved =
    cond (ltb moved (r.to - r.from)) (relay_at r.state r.start r.filled (r.from + moved) r.to r.is_ended Write)
    (relay_at r.state r.start r.filled r.to r.to r.is_ended (cond r.is_ended Done Feed))

-- by this event the code has gone on from a relay and its buffers to others
abbrev pub GoesBy : Event → Relay → List ℕ → List ℕ → List ℕ → Relay → List ℕ → List ℕ → List ℕ → Type 0
GoesBy e r lent input output r' lent' input' output' =
    (p : Passage) → Shows r lent input output p →
    Shows r' lent' input' output' (after_event (sizes (length lent) (length input) (length output)) p e)

-- by some event the code has gone on from a relay and its buffers to others
unfoldable pub GoesOn : Relay → List ℕ → List ℕ → List ℕ → Relay → List ℕ → List ℕ → List ℕ → Type 0
GoesOn r lent input output r' lent' input' output' =
    (p : Passage) → Shows r lent input output p →
    (e : Event) × Shows r' lent' input' output' (after_event (sizes (length lent) (length input) (length output)) p e)

-- by a row of so many events it has come here, from the start with these bytes lent
unfoldable pub Reached : ℕ → List ℕ → Relay → List ℕ → List ℕ → List ℕ → Type 0
Reached n lent₀ r lent input output =
    (events : List Event) × (length events ≡ n) × Shows r lent input output (passed (length input) (length output) lent₀ events)

-- and goes on no more: it is over, or no more events can be counted
unfoldable pub Stopped : List ℕ → Relay → List ℕ → List ℕ → List ℕ → Type 0
Stopped lent₀ r lent input output =
    (n : ℕ) × Reached n lent₀ r lent input output × ((is_over r.next ≡ true) ⊎ (n ≡ 2 ^ 64 - 1))
