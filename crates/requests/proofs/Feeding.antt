-- Feeding in pieces is feeding at once, and feeding a whole file and ending it is the definition by parsing. One law carries it: while the bytes
-- at the front are no whole record they are kept, and a whole one prints its line and leaves the rest. Assumes nothing.
use Prim.Native.Nat.{ℕ, zero, suc, ◌+◌, ◌≤◌}
use native.Mathlib.Omega.{arith}
use mathlib.Core.Bool.{true}
use mathlib.Core.List.{List, [], ◌∷◌, ◌++◌, append_assoc, append-nil}
use mathlib.Core.Path.{◌≡◌, refl, sym, ap}
use lib.ListN.{length, take, drop, length-append, length-drop, drop_of_length-le}
use lib.Seq.{drop_at, length-take-le}
use native.Mathlib.Nat.{le_of_eq}
use Rattle.requests.specs.Request.{Request}
use Rattle.requests.specs.Front.{Front, nothing, part, bad, whole, unfinished, front_of}
use Rattle.requests.specs.Header.{Memory}
use Rattle.requests.specs.Parsed.{bad_record, parsed_from, parsed_within}
use Rattle.requests.specs.Run.{run, answers}
use Rattle.requests.specs.Text.{line_of, ending_line, lines_from}
use Rattle.requests.specs.Replay.{closed}
use Rattle.requests.specs.Machine.{Machine, running, stopped, machine_at, record_fed, fed_at, fed, ending_at, ending_text, ended}
use Rattle.requests.proofs.Settling.{front-stays, whole-size, unfinished-short, front-own}

pub fed-append : (lent : List ℕ) (s : Machine) (p q : List ℕ) → fed lent s (p ++ q) ≡ fed lent (fed lent s p) q
unfolding fed
fed-append lent s [] q = refl
fed-append lent s (b ∷ p) q = fed-append lent (fed_at lent s.stage s b) p q

-- a stopped run swallows every byte
pub fed-stopped : (lent : List ℕ) (n : ℕ) (m : Memory) (pending text bytes : List ℕ) →
    fed lent (machine_at stopped n m pending text) bytes ≡ machine_at stopped n m pending text
unfolding fed fed_at
fed-stopped lent n m pending text [] = refl
fed-stopped lent n m pending text (b ∷ bytes) = fed-stopped lent n m pending text bytes

-- what a run comes to that has these bytes in hand, by what stands at their front
unfoldable pub settled : List ℕ → Front → ℕ → Memory → List ℕ → List ℕ → Machine
settled lent nothing n m bytes text = machine_at running n m bytes text
settled lent part n m bytes text = machine_at running n m bytes text
settled lent bad n m bytes text = machine_at stopped n m [] (text ++ ending_line n bad_record)
settled lent (whole size r) n m bytes text =
    fed lent (machine_at running (n + 1) (run r m).memory [] (text ++ line_of n (run r m).reply)) (drop size bytes)

pub settled-unfinished : (lent : List ℕ) (f : Front) (n : ℕ) (m : Memory) (bytes text : List ℕ) → unfinished f ≡ true →
    settled lent f n m bytes text ≡ machine_at running n m bytes text
unfolding settled
settled-unfinished lent nothing n m bytes text u = refl
settled-unfinished lent part n m bytes text u = refl
settled-unfinished lent bad n m bytes text u = cc
settled-unfinished lent (whole size r) n m bytes text u = cc

-- the bytes up to the end of a record whose last byte is b, and those after it
past-record : (pending : List ℕ) (b : ℕ) (bytes : List ℕ) {size : ℕ} {r : Request} → unfinished (front_of pending) ≡ true →
    front_of (pending ++ (b ∷ [])) ≡ whole size r → drop size ((pending ++ (b ∷ [])) ++ bytes) ≡ bytes
past-record pending b bytes {size} u e =
    let short = unfinished-short pending (b ∷ []) u e in
    let held = whole-size (pending ++ (b ∷ [])) e in
    drop_at (pending ++ (b ∷ [])) bytes size (omega (arith, length-append pending (b ∷ [])))

-- with each byte more the front is unfinished still, or settled for good
pub run_on : (lent : List ℕ) (n : ℕ) (m : Memory) (pending bytes text : List ℕ) → unfinished (front_of pending) ≡ true →
    fed lent (machine_at running n m pending text) bytes ≡ settled lent (front_of (pending ++ bytes)) n m (pending ++ bytes) text
unfolding fed fed_at record_fed settled
run_on lent n m pending [] text u = rw append-nil (sym (settled-unfinished lent (front_of pending) n m pending text u))
run_on lent n m pending (b ∷ bytes) text u =
    rw (← append_assoc pending (b ∷ []) bytes) (go (front_of (pending ++ (b ∷ []))) refl (run_on lent n m (pending ++ (b ∷ [])) bytes text))
  where
    more : List ℕ
    more = pending ++ (b ∷ [])

    go : (f : Front) → front_of more ≡ f →
        (unfinished (front_of more) ≡ true → fed lent (machine_at running n m more text) bytes ≡ settled lent (front_of (more ++ bytes)) n m (more ++ bytes) text) →
        fed lent (record_fed f n m more text) bytes ≡ settled lent (front_of (more ++ bytes)) n m (more ++ bytes) text
    go nothing e again = again (ap unfinished e)
    go part e again = again (ap unfinished e)
    go bad e again = rw (front-stays more bytes (ap unfinished e), e) (fed-stopped lent n m [] (text ++ ending_line n bad_record) bytes)
    go (whole size r) e again = rw (front-stays more bytes (ap unfinished e), e, past-record pending b bytes u e)

-- the text of what the bytes say, from request n on, stands after the text so far
unfoldable pub RunsOut : List ℕ → ℕ → ℕ → Memory → List ℕ → List ℕ → Type 0
RunsOut lent turns n m bytes text =
    ended (fed lent (machine_at running n m [] text) bytes)
    ≡ closed (text ++ lines_from n (answers (parsed_within turns bytes).requests m).replies (parsed_within turns bytes).ending)
    (answers (parsed_within turns bytes).requests m).memory

pub runs-out : (lent : List ℕ) (turns n : ℕ) (m : Memory) (bytes text : List ℕ) → length bytes ≤ turns → RunsOut lent turns n m bytes text
unfolding RunsOut settled fed ended ending_text ending_at front_of parsed_from parsed_within answers lines_from
runs-out lent zero n m [] text h = refl
runs-out lent zero n m (b ∷ bytes) text h = absurd (omega arith)
runs-out lent (suc turns) n m bytes text h = rw (run_on lent n m [] bytes text refl) (go (front_of bytes) refl (runs-out lent turns))
  where
    go : (f : Front) → front_of bytes ≡ f →
        ((n : ℕ) (m : Memory) (bytes text : List ℕ) → length bytes ≤ turns → RunsOut lent turns n m bytes text) →
        let p = parsed_from f (λ size. parsed_within turns (drop size bytes)) in
        ended (settled lent f n m bytes text) ≡ closed (text ++ lines_from n (answers p.requests m).replies p.ending) (answers p.requests m).memory
    go nothing e again = rw e
    go part e again = rw e
    go bad e again = rw append-nil
    go (whole size r) e again =
        let later = parsed_within turns (drop size bytes) in
        let next = run r m in
        let taken = whole-size bytes e in
        rw (← append_assoc text (line_of n next.reply) (lines_from (n + 1) (answers later.requests next.memory).replies later.ending))
        (again (n + 1) next.memory (drop size bytes) (text ++ line_of n next.reply) (simp length-drop (omega arith)))

-- the bytes of a whole record print its line and leave nothing pending
pub record-fed : (lent : List ℕ) (n : ℕ) (m : Memory) (p text : List ℕ) {size : ℕ} {r : Request} → front_of p ≡ whole size r →
    fed lent (machine_at running n m [] text) (take size p) ≡ machine_at running (n + 1) (run r m).memory [] (text ++ line_of n (run r m).reply)
unfolding fed settled
record-fed lent n m p text {size} {r} e =
    rw (run_on lent n m [] (take size p) text (unfold front_of in refl), front-own p e, drop_of_length-le (take size p) {i = size} (le_of_eq (length-take-le size p (whole-size p e).1)))
