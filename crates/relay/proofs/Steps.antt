-- Each step of the code shows the passage after its event. Assumes nothing.
use Prim.Native.Nat.{ℕ, zero, suc, ◌+◌, ◌-◌, ◌≤◌, ◌<◌}
use native.Mathlib.Omega.{arith}
use mathlib.Core.Bool.{Bool, true, false, ◌&&◌, cond}
use mathlib.Core.List.{List, [], ◌∷◌, ◌++◌}
use mathlib.Core.Path.{◌≡◌, refl, sym, ap, ◌∙◌, subst}
use Rattle.std.specs.Prelude.{Ok}
use lib.Dec.{leb, ltb}
use lib.ListN.{length, take, drop, length-take, length-drop, take-append-drop, drop_of_length-le}
use borrow.Author.Tests.{lt-ltb, le-ltb, eq-eqb, ne_eqb, ltb-true, ltb-false}
use Rattle.arena.specs.Sound.{sound_of}
use Rattle.calls.specs.Bytes.{part, carried}
use Rattle.calls.proofs.Writing.{length_part, length-carried, part-carried-same}
use Rattle.requests.specs.Header.{Memory}
use Rattle.requests.specs.Machine.{Stage}
use Rattle.requests.specs.Inner.{Put}
use Rattle.requests.specs.declared.machine.Fed.{Fed}
use Rattle.requests.specs.Feed.{Stepped, ready, step_of, end_room, final_text, stage_said, memory_in, Came}
use Rattle.requests.proofs.Putting.{put-taken}
use Rattle.relay.specs.declared.Next.{Next}
use Rattle.relay.specs.declared.Next.TheVariants.{Feed, Read, Write, Done, ReadFailed, WriteFailed, TooLong}
use Rattle.relay.specs.declared.Relay.{Relay}
use Rattle.relay.specs.Passage.{Passage, passage_at}
use Rattle.relay.specs.Event.{Event, feeds, gives, ends, read_fails, takes, write_fails, interrupts, Sizes, sizes, asks_fed, after_fed, asks_took, after_took, fed_on, read_on, written_on, goes_on, after_event, read_answer, write_answer}
use Rattle.relay.specs.View.{relay_at, Fits, passage_of, Shows, asking, filled_by, written_by, GoesBy}
use Rattle.relay.proofs.Parts.{part_filled, part-used, part-used-up}

-- what is put at the front of the output stands there
put_front : {out text out' : List ℕ} {w : ℕ} → Put out 0 text out' w → w ≤ length out' → length out' ≡ length out → part out' 0 (w - 0) ≡ text
put_front {out' = out'} {w = w} p fits same =
    let whole : w - 0 ≡ w = omega arith in
    ap (λ (k : ℕ). take k out') whole ∙ put-taken (omega (arith, p.moved, fits, same)) p

passage-same : (read written : List ℕ) {pending pending' text text' : List ℕ} {stage stage' : Stage} {number number' : ℕ} {memory memory' : Memory}
    {beyond beyond' : List ℕ} {over : Bool} {asks asks' : Next} → pending ≡ pending' → text ≡ text' → stage ≡ stage' → number ≡ number' → memory ≡ memory' →
    beyond ≡ beyond' → asks ≡ asks' →
    passage_at read written pending text stage number memory beyond over asks ≡ passage_at read written pending' text' stage' number' memory' beyond' over asks'
passage-same read written a b c d e f g = cc

-- what is asked once lines were printed, and once they were written
asks_write : (most taken pending : ℕ) (text : List ℕ) → 0 < length text → Write ≡ asks_fed most text taken pending
unfolding asks_fed
asks_write most taken pending [] h = absurd (omega arith)
asks_write most taken pending (b ∷ text) h = refl

asks-feed : (most taken pending : ℕ) (text : List ℕ) → length text ≡ 0 → 0 < taken → Feed ≡ asks_fed most text taken pending
unfolding asks_fed
asks-feed most taken pending [] h t = rw (ne_eqb taken 0 (λ e. omega (arith, e, t)))
asks-feed most taken pending (b ∷ text) h t = absurd (omega (arith, h))

asks_read : (most taken pending : ℕ) (text : List ℕ) → length text ≡ 0 → taken ≡ 0 → pending < most → Read ≡ asks_fed most text taken pending
unfolding asks_fed
asks_read most taken pending [] h t l = rw (eq-eqb taken 0 t, lt-ltb pending most l)
asks_read most taken pending (b ∷ text) h t l = absurd (omega (arith, h))

asks_nothing : (most taken pending : ℕ) (text : List ℕ) → length text ≡ 0 → taken ≡ 0 → most ≤ pending → TooLong ≡ asks_fed most text taken pending
unfolding asks_fed
asks_nothing most taken pending [] h t l = rw (eq-eqb taken 0 t, le-ltb pending most l)
asks_nothing most taken pending (b ∷ text) h t l = absurd (omega (arith, h))

still-writes : (text : List ℕ) (over : Bool) → 0 < length text → Write ≡ asks_took text over
unfolding asks_took
still-writes [] over h = absurd (omega arith)
still-writes (b ∷ text) over h = refl

all-written : (text : List ℕ) (over : Bool) → text ≡ [] → cond over Done Feed ≡ asks_took text over
unfolding asks_took
all-written text true e = rw e
all-written text false e = rw e

-- it is enough to look at the relay's own passages, and what the relay asks decides how the event is answered
module _ (r : Relay) (lent input output : List ℕ) where
  abbrev z : Sizes
  z = sizes (length lent) (length input) (length output)

  abbrev own : List ℕ → List ℕ → Passage
  own read written = passage_of read written r lent input output

  goes : (e : Event) (next : Next) (r' : Relay) (lent' input' output' : List ℕ) → r.next ≡ next →
      ((read written : List ℕ) → Shows r' lent' input' output' (goes_on next z (own read written) e)) → GoesBy e r lent input output r' lent' input' output'
  unfolding Shows after_event
  goes e next r' lent' input' output' asked shown p shows =
      subst (λ (x : Passage). Shows r' lent' input' output' (goes_on x.asks z x e)) shows
      (subst (λ (n : Next). Shows r' lent' input' output' (goes_on n z (own p.read p.written) e)) (sym asked) (shown p.read p.written))

  pub read-failed : r.next ≡ Read → GoesBy read_fails r lent input output (asking r ReadFailed) lent input output
  unfolding Shows goes_on read_on
  read-failed asked = goes read_fails Read (asking r ReadFailed) lent input output asked (λ read written. refl)

  pub read-interrupted : r.next ≡ Read → GoesBy interrupts r lent input output r lent input output
  unfolding Shows goes_on read_on
  read-interrupted asked = goes interrupts Read r lent input output asked (λ read written. refl)

  pub read-gave : Fits r (length input) (length output) → r.next ≡ Read → (n : ℕ) →
      GoesBy (gives (take n (drop r.filled input))) r lent input output (filled_by r n (length input)) lent input output
  unfolding Shows goes_on read_on filled_by
  read-gave f asked n =
      goes (gives (take n (drop r.filled input))) Read (filled_by r n (length input)) lent input output asked
      (λ read written.
      passage-same (read ++ take n (drop r.filled input)) written (part_filled input r.start r.filled f.starts n f.filled) refl refl refl refl refl refl)

  pub read-ended : r.next ≡ Read → {output' : List ℕ} {w : ℕ} →
      Put output 0 (final_text (leb end_room (length output) && sound_of r.state.arena) (stage_said r.state.stage) r.state.number r.state.arena (part input r.start (r.filled - r.start))) output' w →
      w ≤ length output' → length output' ≡ length output →
      GoesBy ends r lent input output (relay_at r.state r.start r.filled 0 w true Write) lent input output'
  unfolding Shows goes_on read_on
  read-ended asked {output'} {w} put fits same =
      goes ends Read (relay_at r.state r.start r.filled 0 w true Write) lent input output' asked
      (λ read written. passage-same read written refl (put_front put fits same) refl refl refl refl refl)

  pub write-failed : r.next ≡ Write → GoesBy write_fails r lent input output (asking r WriteFailed) lent input output
  unfolding Shows goes_on written_on
  write-failed asked = goes write_fails Write (asking r WriteFailed) lent input output asked (λ read written. refl)

  pub write-interrupted : r.next ≡ Write → GoesBy interrupts r lent input output r lent input output
  unfolding Shows goes_on written_on
  write-interrupted asked = goes interrupts Write r lent input output asked (λ read written. refl)

  pub write-took : Fits r (length input) (length output) → r.next ≡ Write → (n : ℕ) →
      GoesBy (takes n) r lent input output (written_by r n) lent input output
  unfolding Shows goes_on written_on written_by
  write-took f asked n =
      goes (takes n) Write (written_by r n) lent input output asked (λ read written. go read written (ltb n (r.to - r.from)) refl)
    where
      text : List ℕ
      text = part output r.from (r.to - r.from)

      go : (read written : List ℕ) (b : Bool) → ltb n (r.to - r.from) ≡ b →
          let r' = cond b (relay_at r.state r.start r.filled (r.from + n) r.to r.is_ended Write)
          (relay_at r.state r.start r.filled r.to r.to r.is_ended (cond r.is_ended Done Feed)) in
          passage_of read (written ++ take n text) r' lent input output ≡ after_took (own read written) n
      go read written true t =
          let few : n < r.to - r.from = ltb-true n (r.to - r.from) t in
          let left = part-used output r.from r.to f.begins n f.ends (omega (arith, few)) in
          let some : 0 < length (drop n text) =
          omega (arith, few, length-drop n text, length_part output r.from (r.to - r.from) (omega (arith, f.begins, f.ends))) in
          passage-same read (written ++ take n text) refl left refl refl refl refl (still-writes (drop n text) r.is_ended some)
      go read written false t =
          let many : r.to - r.from ≤ n = ltb-false n (r.to - r.from) t in
          let none = part-used-up output r.from r.to f.begins n f.ends many in
          passage-same read (written ++ take n text) refl none refl refl refl refl (all-written (drop n text) r.is_ended
          (drop_of_length-le text {i = n} (omega (arith, many, length-take (r.to - r.from) (drop r.from output)))))

-- the code's relay after an answer, with what is shown of it whatever bytes are lent
abbrev Goes : Event → Relay → List ℕ → List ℕ → Relay → List ℕ → Type 0
Goes e r input output r' output' =
    Fits r' (length input) (length output') × ((lent : List ℕ) → GoesBy e r lent input output r' lent input output')

module _ (r : Relay) (input output : List ℕ) (f : Fits r (length input) (length output)) where
  fits-asking : (next : Next) → (next ≡ Read → ⊥) → Fits (asking r next) (length input) (length output)
  fits-asking next other =
      record { starts = f.starts; filled = f.filled; begins = f.begins; ends = f.ends; room = λ e. absurd (other e) }

  fits-filled : (n : ℕ) → Fits (filled_by r n (length input)) (length input) (length output)
  unfolding filled_by
  fits-filled n = go (ltb n (length input - r.filled)) refl
    where
      go : (b : Bool) → ltb n (length input - r.filled) ≡ b →
          Fits (relay_at r.state r.start (cond b (r.filled + n) (length input)) r.from r.to r.is_ended Feed) (length input) (length output)
      go true t =
          record {
            starts = omega (arith, f.starts);
            filled = omega (arith, ltb-true n (length input - r.filled) t);
            begins = f.begins;
            ends = f.ends;
            room = λ e. cc;
          }
      go false t = record { starts = omega (arith, f.starts, f.filled); filled = omega arith; begins = f.begins; ends = f.ends; room = λ e. cc }

  fits-written : (n : ℕ) → Fits (written_by r n) (length input) (length output)
  unfolding written_by
  fits-written n = go (ltb n (r.to - r.from)) refl r.is_ended
    where
      go : (b : Bool) → ltb n (r.to - r.from) ≡ b → (over : Bool) →
          Fits
          (cond b (relay_at r.state r.start r.filled (r.from + n) r.to over Write)
          (relay_at r.state r.start r.filled r.to r.to over (cond over Done Feed))) (length input) (length output)
      go true t over =
          record {
            starts = f.starts;
            filled = f.filled;
            begins = omega (arith, ltb-true n (r.to - r.from) t);
            ends = f.ends;
            room = λ e. cc;
          }
      go false t true = record { starts = f.starts; filled = f.filled; begins = omega arith; ends = f.ends; room = λ e. cc }
      go false t false = record { starts = f.starts; filled = f.filled; begins = omega arith; ends = f.ends; room = λ e. cc }

  pub read-failed-goes : r.next ≡ Read → Goes read_fails r input output (asking r ReadFailed) output
  read-failed-goes asked = (fits-asking ReadFailed (λ e. cc), λ lent. read-failed r lent input output asked)

  pub read-interrupted-goes : r.next ≡ Read → Goes interrupts r input output r output
  read-interrupted-goes asked = (f, λ lent. read-interrupted r lent input output asked)

  pub read-gave-goes : r.next ≡ Read → (n : ℕ) → (n ≡ 0 → ⊥) → Goes (read_answer (Ok n) (drop r.filled input)) r input output (filled_by r n (length input)) output
  unfolding read_answer
  read-gave-goes asked zero some = absurd (some refl)
  read-gave-goes asked (suc n) some = (fits-filled (suc n), λ lent. read-gave r lent input output f asked (suc n))

  pub read-ended-goes : r.next ≡ Read → {output' : List ℕ} {w : ℕ} →
      Put output 0 (final_text (leb end_room (length output) && sound_of r.state.arena) (stage_said r.state.stage) r.state.number r.state.arena (part input r.start (r.filled - r.start))) output' w →
      w ≤ length output' → length output' ≡ length output → Goes ends r input output (relay_at r.state r.start r.filled 0 w true Write) output'
  read-ended-goes asked put fits same = (
    record { starts = f.starts; filled = f.filled; begins = omega arith; ends = fits; room = λ e. cc },
    λ lent. read-ended r lent input output asked put fits same,
  )

  pub write-failed-goes : r.next ≡ Write → Goes write_fails r input output (asking r WriteFailed) output
  write-failed-goes asked = (fits-asking WriteFailed (λ e. cc), λ lent. write-failed r lent input output asked)

  pub write-interrupted-goes : r.next ≡ Write → Goes interrupts r input output r output
  write-interrupted-goes asked = (f, λ lent. write-interrupted r lent input output asked)

  pub write-took-goes : r.next ≡ Write → (n : ℕ) → (n ≡ 0 → ⊥) → Goes (write_answer (Ok n)) r input output (written_by r n) output
  unfolding write_answer
  write-took-goes asked zero some = absurd (some refl)
  write-took-goes asked (suc n) some = (fits-written (suc n), λ lent. write-took r lent input output f asked (suc n))

-- what the machine's step comes to, on the bytes in hand
abbrev window_of : Relay → List ℕ → List ℕ
window_of r input = part input r.start (r.filled - r.start)

abbrev fed_step : Relay → List ℕ → List ℕ → List ℕ → Stepped
fed_step r lent input output =
    step_of (ready r.state.arena r.state.number (length lent) (length (window_of r input))) (stage_said r.state.stage) lent r.state.number
    (memory_in r.state.arena lent) (window_of r input) (length output)

module _ (r : Relay) (lent input output : List ℕ) {lent' output' : List ℕ} {did : Fed} (came : Came (fed_step r lent input output) lent output did lent' output')
    (fits : Fits r (length input) (length output)) (inside : (did.taken ≤ length (window_of r input)) × (did.written ≤ length output'))
    (same : length output' ≡ length output) (asked : r.next ≡ Feed) where
  window : List ℕ
  window = window_of r input

  text : List ℕ
  text = (fed_step r lent input output).after.text

  size : length window ≡ r.filled - r.start
  unfolding window
  size = length_part input r.start (r.filled - r.start) (omega (arith, fits.starts, fits.filled))

  text-size : did.written ≡ length text
  unfolding text
  text-size = omega (arith, came.put.moved)

  taken : did.taken ≤ length window
  unfolding window
  taken = inside.0

  -- the code's relay after feeding, with what is shown of it
  abbrev FedGoes : List ℕ → ℕ → ℕ → Next → Type 0
  FedGoes input' start filled next =
      let r' = relay_at did.state start filled 0 did.written r.is_ended next in
      Fits r' (length input') (length output') × GoesBy feeds r lent input output r' lent' input' output'

  fed-goes : (input' : List ℕ) (start filled : ℕ) (next : Next) → start ≤ filled → filled ≤ length input' → (next ≡ Read → filled < length input') →
      part input' start (filled - start) ≡ drop did.taken window → next ≡ asks_fed (length input) text did.taken (length window) → FedGoes input' start filled next
  unfolding Shows goes_on fed_on after_fed window text
  fed-goes input' start filled next starts in-bounds room pending asks = (
    record { starts = starts; filled = in-bounds; begins = omega arith; ends = inside.1; room = room },
    goes r lent input output feeds Feed (relay_at did.state start filled 0 did.written r.is_ended next) lent' input' output' asked
        (λ read written.
        rw (take-append-drop r.state.arena.head.region lent)
        (passage-same read written (pending ∙ ap (λ (k : ℕ). drop k window) came.taken) (put_front came.put inside.1 same) came.stage came.number
        came.memory (came.beyond ∙ ap (λ (m : Memory). drop m.arena.head.region lent) came.memory)
        (asks ∙ ap (λ (k : ℕ). asks_fed (length input) text k (length window)) came.taken))),
  )

  used : part input (r.start + did.taken) (r.filled - (r.start + did.taken)) ≡ drop did.taken window
  unfolding window
  used = part-used input r.start r.filled fits.starts did.taken fits.filled (omega (arith, taken, size))

  pub lines-come : 0 < did.written → FedGoes input (r.start + did.taken) r.filled Write
  lines-come some =
      fed-goes input (r.start + did.taken) r.filled Write (omega (arith, fits.starts, taken, size)) fits.filled (λ e. cc) used
      (asks_write (length input) did.taken _ text (omega (arith, text-size, some)))

  pub more-to-feed : did.written ≤ 0 → 0 < did.taken → FedGoes input (r.start + did.taken) r.filled Feed
  more-to-feed none some =
      fed-goes input (r.start + did.taken) r.filled Feed (omega (arith, fits.starts, taken, size)) fits.filled (λ e. cc) used
      (asks-feed (length input) did.taken _ text (omega (arith, text-size, none)) some)

  -- the bytes in hand are carried to the front
  module _ {input' : List ℕ} (carries : input' ≡ carried input r.start 0 (r.filled - r.start)) (no_line : did.written ≤ 0) (no_byte : did.taken ≤ 0) where
    input-size : length input' ≡ length input
    input-size =
        ap length carries ∙ length-carried input r.start 0 (r.filled - r.start) (omega (arith, fits.starts, fits.filled)) (omega (arith, fits.starts, fits.filled))

    none-taken : did.taken ≡ 0
    none-taken = omega (arith, no_byte)

    front : part input' 0 (r.filled - r.start - 0) ≡ drop did.taken window
    unfolding window
    front =
        let whole : r.filled - r.start - 0 ≡ r.filled - r.start = omega arith in
        ap (part input' 0) whole
        ∙ ap (λ (l : List ℕ). part l 0 (r.filled - r.start)) carries
        ∙ part-carried-same input r.start 0 (r.filled - r.start) (omega (arith, fits.starts, fits.filled)) (omega (arith, fits.starts, fits.filled))
        ∙ ap (λ (k : ℕ). drop k (part input r.start (r.filled - r.start))) (sym none-taken)

    pub more-to-read : r.filled - r.start < length input' → FedGoes input' 0 (r.filled - r.start) Read
    more-to-read room =
        fed-goes input' 0 (r.filled - r.start) Read (omega arith) (omega (arith, room)) (λ e. room) front
        (asks_read (length input) did.taken _ text (omega (arith, text-size, no_line)) none-taken (omega (arith, size, room, input-size)))

    pub too_much : length input' ≤ r.filled - r.start → FedGoes input' 0 (r.filled - r.start) TooLong
    too_much full =
        fed-goes input' 0 (r.filled - r.start) TooLong (omega arith) (omega (arith, fits.starts, fits.filled, input-size)) (λ e. cc) front
        (asks_nothing (length input) did.taken _ text (omega (arith, text-size, no_line)) none-taken (omega (arith, size, full, input-size)))
