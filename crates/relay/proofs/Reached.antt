-- Going on from turn to turn: what the bytes in hand show does not hang on the rest of the input, an interruption changes nothing, and a row of events that is one
-- longer is the row and then the event. Assumes nothing.
use Prim.Native.Nat.{ℕ, ◌+◌, ◌-◌, ◌≤◌}
use native.Mathlib.Omega.{arith}
use mathlib.Core.List.{List, [], ◌∷◌, ◌++◌}
use mathlib.Core.Path.{◌≡◌, refl, sym, ap, subst, ◌∙◌}
use lib.ListN.{length, take, drop, length-append}
use lib.Seq.{take-add, drop_at, length-take-le}
use Rattle.arena.specs.Record.{holding}
use Rattle.calls.specs.Bytes.{part}
use Rattle.requests.specs.Header.{memory_for}
use Rattle.requests.specs.Feed.{stage_said, memory_in}
use Rattle.relay.specs.declared.Next.{Next}
use Rattle.relay.specs.declared.Next.TheVariants.{Feed, Read, Write}
use Rattle.relay.specs.declared.Relay.{Relay}
use Rattle.relay.specs.Passage.{Passage, passage_at, begun_with}
use Rattle.relay.specs.Event.{Event, interrupts, Sizes, sizes, fed_on, read_on, written_on, goes_on, after_event, passed_on, passed}
use Rattle.relay.specs.View.{Fits, Shows, begun_relay, GoesBy, GoesOn, Reached}

pub interrupted-stays : (z : Sizes) (p : Passage) → after_event z p interrupts ≡ p
unfolding after_event goes_on fed_on read_on written_on
interrupted-stays z p = go p.asks
  where
    go : (next : Next) → goes_on next z p interrupts ≡ p
    go Feed = refl
    go Read = refl
    go Write = refl
    go next = refl

-- a relay that stays as it is goes on by an interruption
pub stays_on : (r : Relay) (lent input output : List ℕ) → GoesOn r lent input output r lent input output
unfolding GoesOn
stays_on r lent input output p shows =
    (interrupts, subst (Shows r lent input output) (sym (interrupted-stays (sizes (length lent) (length input) (length output)) p)) shows)

-- the bytes in hand are the last of the filled ones
front-part : (bytes : List ℕ) (start end : ℕ) → start ≤ end → end ≤ length bytes → drop start (take end bytes) ≡ part bytes start (end - start)
front-part bytes start end starts ends =
    let whole : end ≡ start + (end - start) = omega arith in
    ap (λ (k : ℕ). drop start (take k bytes)) whole
    ∙ ap (drop start) (take-add start (end - start) bytes)
    ∙ drop_at (take start bytes) (take (end - start) (drop start bytes)) start (length-take-le start bytes (omega arith))

-- where these are kept, they show what they did
pub shows_kept : (r : Relay) (lent input other output : List ℕ) (p : Passage) → Fits r (length input) (length output) → length other ≡ length input →
    take r.filled other ≡ take r.filled input → Shows r lent input output p → Shows r lent other output p
unfolding Shows
shows_kept r lent input other output p fits same kept shows =
    let in-hand : part other r.start (r.filled - r.start) ≡ part input r.start (r.filled - r.start) =
    sym (front-part other r.start r.filled fits.starts (omega (arith, fits.filled)))
    ∙ ap (drop r.start) kept
    ∙ front-part input r.start r.filled fits.starts fits.filled in
    ap
    (λ (pending : List ℕ). passage_at p.read p.written pending (part output r.from (r.to - r.from)) (stage_said r.state.stage)
    r.state.number (memory_in r.state.arena lent) (drop r.state.arena.head.region lent) r.is_ended r.next)
    in-hand
    ∙ shows

-- a read goes on by what it answered, if it keeps the bytes in hand
pub read-on : (r r' : Relay) (lent input other output output' : List ℕ) (e : Event) → Fits r (length input) (length output) → length other ≡ length input →
    take r.filled other ≡ take r.filled input →
    GoesBy e r lent other output r' lent other output' → GoesOn r lent input output r' lent other output'
unfolding GoesOn
read-on r r' lent input other output output' e fits same kept step p shows = (
  e,
  subst (λ (n : ℕ). Shows r' lent other output' (after_event (sizes (length lent) n (length output)) p e)) same
      (step p (shows_kept r lent input other output p fits same kept shows)),
)

-- a relay that has begun fits all buffers, since nothing is in hand, and no read is asked for
pub begun-fits : (input output : ℕ) → Fits begun_relay input output
begun-fits input output = record { starts = omega arith; filled = omega arith; begins = omega arith; ends = omega arith; room = λ e. cc }

-- at first nothing has happened: the passage is the one before the first byte
pub begun-reached : (lent input output : List ℕ) → Reached 0 lent begun_relay lent input output
unfolding Reached Shows passed_on memory_for stage_said holding
begun-reached lent input output = ([], refl, refl)

passed_then : (z : Sizes) (p : Passage) (events : List Event) (e : Event) → passed_on z p (events ++ (e ∷ [])) ≡ after_event z (passed_on z p events) e
unfolding passed_on
passed_then z p [] e = refl
passed_then z p (first ∷ events) e = passed_then z (after_event z p first) events e

pub goes-reached : (n : ℕ) (lent₀ : List ℕ) (r r' : Relay) (lent input output lent' input' output' : List ℕ) → length lent ≡ length lent₀ →
    length input' ≡ length input → length output' ≡ length output →
    Reached n lent₀ r lent input output → GoesOn r lent input output r' lent' input' output' → Reached (n + 1) lent₀ r' lent' input' output'
unfolding Reached GoesOn
goes-reached n lent₀ r r' lent input output lent' input' output' l i o (events, many, shows) on =
    let (e, shown) = on (passed (length input) (length output) lent₀ events) shows in
    let longer : List Event = events ++ (e ∷ []) in
    let same =
    ap (λ (n : ℕ). after_event (sizes n (length input) (length output)) (passed (length input) (length output) lent₀ events) e) l
    ∙ sym (passed_then (sizes (length lent₀) (length input) (length output)) (begun_with lent₀) events e)
    ∙ ap (λ (n : ℕ). passed n (length output) lent₀ longer) (sym i)
    ∙ ap (λ (n : ℕ). passed (length input') n lent₀ longer) (sym o) in
    (longer, length-append events (e ∷ []) ∙ ap (λ (k : ℕ). k + 1) many, subst (Shows r' lent' input' output') same shown)
