-- What can happen to a replay, and how far it has come after it.
use Rattle.std.specs.Prelude.{ℕ, zero, suc, Bool, true, false, ◌&&◌, cond, List, [], ◌∷◌, ◌++◌, length, take, drop, leb, ltb, eqb, Result, Ok, Err}
use Rattle.arena.specs.Sound.{sound_of}
use Rattle.requests.specs.Feed.{Stepped, ready, step_of, end_room, final_text}
use Rattle.relay.specs.declared.Next.{Next}
use Rattle.relay.specs.declared.Next.TheVariants.{Feed, Read, Write, Done, ReadFailed, WriteFailed, TooLong}
use Rattle.relay.specs.declared.Failure.{Failure}
use Rattle.relay.specs.declared.Failure.TheVariants.{Interrupted, Other}
use Rattle.relay.specs.Passage.{Passage, passage_at, begun_with, lent_bytes, asked}

-- the bytes in hand are fed; a read gives a piece, finds the end or fails; a write takes so many bytes or fails; a call is interrupted
pub data Event : Type 0 where
  feeds : Event
  gives : List ℕ → Event
  ends : Event
  read_fails : Event
  takes : ℕ → Event
  write_fails : Event
  interrupts : Event

-- how many bytes are lent for the region, for the input and for the output
pub record Sizes : Type 0 where
  pub region : ℕ
  pub input : ℕ
  pub output : ℕ

abbrev pub sizes : ℕ → ℕ → ℕ → Sizes
sizes region input output = record { region = region; input = input; output = output }

-- what feeding the bytes in hand comes to
abbrev pub stepped : Sizes → Passage → Stepped
stepped z p =
    step_of (ready p.memory.arena p.number z.region (length p.pending)) p.stage (lent_bytes p) p.number p.memory p.pending z.output

-- lines are written first; then more is fed; where nothing was taken, more is read, if there is room for it
unfoldable pub asks_fed : ℕ → List ℕ → ℕ → ℕ → Next
asks_fed most [] taken pending = cond (eqb taken 0) (cond (ltb pending most) Read TooLong) Feed
asks_fed most (b ∷ text) taken pending = Write

unfoldable pub after_fed : Sizes → Passage → Stepped → Passage
after_fed z p s =
    passage_at p.read p.written (drop s.taken p.pending) s.after.text s.after.stage s.after.number s.after.memory
    (drop s.after.memory.arena.head.region (lent_bytes p)) p.ended (asks_fed z.input s.after.text s.taken (length p.pending))

abbrev pub after_got : Passage → List ℕ → Passage
after_got p piece =
    passage_at (p.read ++ piece) p.written (p.pending ++ piece) p.text p.stage p.number p.memory p.beyond p.ended Feed

-- what the end of the input adds is to be written
abbrev pub after_end : Sizes → Passage → Passage
after_end z p =
    passage_at p.read p.written p.pending
    (final_text (leb end_room z.output && sound_of p.memory.arena) p.stage p.number p.memory.arena p.pending) p.stage p.number p.memory
    p.beyond true Write

-- once all is written, more is fed, or after the end all is done
unfoldable pub asks_took : List ℕ → Bool → Next
asks_took [] true = Done
asks_took [] false = Feed
asks_took (b ∷ text) over = Write

abbrev pub after_took : Passage → ℕ → Passage
after_took p n =
    passage_at p.read (p.written ++ take n p.text) p.pending (drop n p.text) p.stage p.number p.memory p.beyond p.ended
    (asks_took (drop n p.text) p.ended)

-- an event that is no answer to what is asked changes nothing, and an interrupted call is asked for again
unfoldable pub fed_on : Sizes → Passage → Event → Passage
fed_on z p feeds = after_fed z p (stepped z p)
fed_on z p e = p

unfoldable pub read_on : Sizes → Passage → Event → Passage
read_on z p (gives piece) = after_got p piece
read_on z p ends = after_end z p
read_on z p read_fails = asked p ReadFailed
read_on z p e = p

unfoldable pub written_on : Passage → Event → Passage
written_on p (takes n) = after_took p n
written_on p write_fails = asked p WriteFailed
written_on p e = p

-- once it is done, or something went wrong, nothing changes any more
unfoldable pub goes_on : Next → Sizes → Passage → Event → Passage
goes_on Feed z p e = fed_on z p e
goes_on Read z p e = read_on z p e
goes_on Write z p e = written_on p e
goes_on next z p e = p

unfoldable pub after_event : Sizes → Passage → Event → Passage
after_event z p e = goes_on p.asks z p e

-- after a row of events
unfoldable pub passed_on : Sizes → Passage → List Event → Passage
passed_on z p [] = p
passed_on z p (e ∷ es) = passed_on z (after_event z p e) es

-- from the start, with these bytes lent for the region, and these sizes of the other two
abbrev pub passed : ℕ → ℕ → List ℕ → List Event → Passage
passed input output lent events = passed_on (sizes (length lent) input output) (begun_with lent) events

-- a read that gives no byte has found the end; what it gave stands from here on
unfoldable pub read_answer : Result ℕ Failure → List ℕ → Event
read_answer (Ok zero) given = ends
read_answer (Ok (suc n)) given = gives (take (suc n) given)
read_answer (Err Interrupted) given = interrupts
read_answer (Err Other) given = read_fails

-- a write that takes no byte has failed
unfoldable pub write_answer : Result ℕ Failure → Event
write_answer (Ok zero) = write_fails
write_answer (Ok (suc n)) = takes (suc n)
write_answer (Err Interrupted) = interrupts
write_answer (Err Other) = write_fails
