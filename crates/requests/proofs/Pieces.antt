-- Every way of going through a file comes to the definition: each window that is fed is the machine, fed the bytes that were taken. Assumes nothing.
use Prim.Native.Nat.{ℕ, zero, suc, ◌-◌, ◌≤◌, ◌<◌}
use native.Mathlib.Nat.{le_of_eq, le_refl}
use native.Mathlib.Omega.{arith}
use mathlib.Core.Bool.{Bool, true, false, ◌&&◌, cond}
use mathlib.Core.List.{List, [], ◌∷◌, ◌++◌, append_assoc, append-nil}
use Rattle.std.specs.Prelude.{Option, None, Some}
use mathlib.Core.Path.{◌≡◌, refl, sym, ap, ◌∙◌}
use Prim.{Unit, tt}
use lib.Dec.{leb, ltb}
use lib.ListN.{length, take, drop, take-append-drop, drop_of_length-le}
use lib.Seq.{take_all, length-take-le}
use borrow.Author.Tests.{leb-true, leb-false, ltb-true, lt-ltb, le-ltb, le-leb}
use Rattle.rounding.proofs.Tests.{and_right}
use Rattle.requests.specs.Front.{Front, nothing, part, bad, whole, unfinished, front_of}
use Rattle.requests.specs.Header.{Header, Memory, header_size, header_of, memory_for}
use Rattle.requests.specs.Parsed.{bad_record}
use Rattle.requests.specs.Text.{ending_line}
use Rattle.requests.specs.Replay.{closed}
use Rattle.requests.specs.Machine.{Stage, heading, running, stopped, Machine, machine_at, start, headed, fed_at, fed, ending_text, ended}
use Rattle.requests.specs.Request.{Request}
use Rattle.requests.specs.Window.{Passed, passed_to, line_room, passed_within, passed_of}
use Rattle.requests.specs.Feed.{Stepped, stepped_to, stays, is_bad, after_passed, bad_next, run_step, step_at}
use Rattle.requests.specs.Pieces.{Piece, Gone, begun, after, gone_on, is_rest, AnyPieces, NothingTaken}
use Rattle.requests.proofs.Feeding.{fed-append, fed-stopped, settled, settled-unfinished, run_on}
use Rattle.requests.proofs.Heading.{header-stays, opened_by, opened}
use Rattle.requests.proofs.Settling.{whole-size}
use Rattle.requests.proofs.Stepping.{is_whole, stops-by-front, goes_on}
use Rattle.requests.proofs.Windows.{Runs, passed-runs}
use Rattle.requests.proofs.Whole.{fed-whole}

-- before the header nothing is written, and there is no arena yet
abbrev Fresh : Stage → List ℕ → Memory → List ℕ → Type 0
Fresh heading lent m text = (m ≡ memory_for lent None) × (text ≡ [])
Fresh running lent m text = Unit
Fresh stopped lent m text = Unit

-- the machine that a step comes to, its text after the text so far
abbrev onto : List ℕ → Stepped → Machine
onto text s = machine_at s.after.stage s.after.number s.after.memory [] (text ++ s.after.text)

Feeds : Stage → List ℕ → ℕ → Memory → List ℕ → List ℕ → Stepped → Type 0
Feeds stage lent n m window text s = (fed lent (machine_at stage n m [] text) (take s.taken window) ≡ onto text s) × Fresh s.after.stage lent s.after.memory (text ++ s.after.text)

feeds-none : (stage : Stage) (lent : List ℕ) (n : ℕ) (m : Memory) (window text : List ℕ) → Fresh stage lent m text → Feeds stage lent n m window text (stays stage n m)
unfolding fed Feeds
feeds-none stage lent n m window text f = (ap (machine_at stage n m []) (sym (append-nil text)), rw append-nil f)

-- the first byte forgets what stood before it
header-starts : (lent : List ℕ) (n : ℕ) (m : Memory) (bytes : List ℕ) → 0 < length bytes → fed lent (machine_at heading n m [] []) bytes ≡ fed lent (start lent) bytes
unfolding fed fed_at
header-starts lent n m [] h = absurd (omega arith)
header-starts lent n m (b ∷ bytes) h = refl

opened-six : (lent bytes : List ℕ) → length bytes ≡ header_size → opened_by lent bytes ≡ headed lent (header_of bytes)
unfolding opened_by fed
opened-six lent bytes e = rw (le-ltb (length bytes) header_size (omega (arith, e)), drop_of_length-le bytes {i = header_size} (le_of_eq e))

opened-short : (lent bytes : List ℕ) → length bytes < header_size → opened_by lent bytes ≡ machine_at heading 1 (memory_for lent None) bytes []
unfolding opened_by
opened-short lent bytes h = rw (lt-ltb (length bytes) header_size h)

-- the header's six bytes
header-fed : (lent : List ℕ) (n : ℕ) (m : Memory) (window : List ℕ) → header_size ≤ length window →
    fed lent (machine_at heading n m [] []) (take header_size window) ≡ headed lent (header_of window)
header-fed lent n m window h =
    let six : length (take header_size window) ≡ header_size = length-take-le header_size window h in
    header-starts lent n m (take header_size window) (omega (arith, six))
    ∙ opened lent (take header_size window)
    ∙ opened-six lent (take header_size window) six
    ∙ ap (headed lent)
    (sym (header-stays (take header_size window) (drop header_size window) (omega (arith, six))) ∙ ap header_of (take-append-drop header_size window))

headed-fresh : (lent : List ℕ) (o : Option Header) → Fresh (headed lent o).stage lent (headed lent o).memory (headed lent o).text
unfolding headed
headed-fresh lent None = tt
headed-fresh lent (Some h) = tt

headed-settled : (lent : List ℕ) (o : Option Header) (k : ℕ) → headed lent o ≡ onto [] (stepped_to (headed lent o) k)
unfolding headed
headed-settled lent None k = refl
headed-settled lent (Some h) k = refl

heading-feeds : (lent : List ℕ) (n : ℕ) (m : Memory) (window : List ℕ) (room : ℕ) → m ≡ memory_for lent None → Feeds heading lent n m window [] (step_at heading lent n m window room)
unfolding step_at Feeds
heading-feeds lent n m window room none_yet = go (leb header_size (length window)) refl (leb line_room room)
  where
    go : (a : Bool) → leb header_size (length window) ≡ a → (b : Bool) →
        Feeds heading lent n m window [] (cond (a && b) (stepped_to (headed lent (header_of window)) header_size) (stays heading n m))
    go false x b = feeds-none heading lent n m window [] (none_yet, refl)
    go true x false = feeds-none heading lent n m window [] (none_yet, refl)
    go true x true =
        (header-fed lent n m window (leb-true header_size (length window) x) ∙ headed-settled lent (header_of window) header_size, headed-fresh lent (header_of window))

-- a bad record after those that were passed
bad-fed : (lent : List ℕ) (n : ℕ) (m : Memory) (rest text : List ℕ) → is_bad (front_of rest) ≡ true →
    fed lent (machine_at running n m [] text) rest ≡ machine_at stopped n m [] (text ++ ending_line n bad_record)
unfolding settled
bad-fed lent n m rest text b = run_on lent n m [] rest text (unfold front_of in refl) ∙ go (front_of rest) b
  where
    go : (f : Front) → is_bad f ≡ true → settled lent f n m rest text ≡ machine_at stopped n m [] (text ++ ending_line n bad_record)
    go nothing b = cc
    go part b = cc
    go bad b = refl
    go (whole size r) b = cc

running-feeds : (lent : List ℕ) (n : ℕ) (m : Memory) (window text : List ℕ) (room : ℕ) → Feeds running lent n m window text (step_at running lent n m window room)
unfolding step_at run_step after_passed passed_of Feeds
running-feeds lent n m window text room =
    go (passed_within (length window) room n m window) (passed-runs (length window) room n m window)
  where
    by : (p : Passed) → Runs room n m window p → (b : Bool) → bad_next room window p ≡ b →
        Feeds running lent n m window text (after_passed b p (length window))
    by p h false e = (h.comes lent text, tt)
    by p h true e =
        let rest = drop p.taken window in
        let so_far = text ++ p.text in (
          ap (fed lent (machine_at running n m [] text)) (take_all (length window) window (le_refl (length window)) ∙ sym (take-append-drop p.taken window))
              ∙ fed-append lent (machine_at running n m [] text) (take p.taken window) rest
              ∙ ap (λ (s : Machine). fed lent s rest) (h.comes lent text)
              ∙ bad-fed lent p.number p.memory rest so_far (and_right (leb line_room (room - length p.text)) (is_bad (front_of rest)) e)
              ∙ ap (machine_at stopped p.number p.memory []) (append_assoc text p.text (ending_line p.number bad_record)),
          tt,
        )

    go : (p : Passed) → Runs room n m window p → Feeds running lent n m window text (run_step room window p)
    go p h = by p h (bad_next room window p) refl

step-feeds : (stage : Stage) (lent : List ℕ) (n : ℕ) (m : Memory) (window text : List ℕ) (room : ℕ) → Fresh stage lent m text →
    Feeds stage lent n m window text (step_at stage lent n m window room)
unfolding step_at Feeds
step-feeds heading lent n m window text room f = rw f.1 (heading-feeds lent n m window room f.0)
step-feeds running lent n m window text room f = running-feeds lent n m window text room
step-feeds stopped lent n m window text room f =
    (fed-stopped lent n m [] text (take (length window) window) ∙ ap (machine_at stopped n m []) (sym (append-nil text)), tt)

-- where the machine stands after the bytes that were taken
Stands : List ℕ → Gone → Type 0
Stands lent g = (fed lent (start lent) g.taken ≡ machine_at g.stage g.number g.memory [] g.text) × Fresh g.stage lent g.memory g.text

stands_after : (lent : List ℕ) (g : Gone) (window : List ℕ) (room : ℕ) → Stands lent g →
    Stands lent (after g window (step_at g.stage lent g.number g.memory window room))
unfolding Stands Feeds
stands_after lent g window room h =
    let s = step_at g.stage lent g.number g.memory window room in
    let f = step-feeds g.stage lent g.number g.memory window g.text room h.1 in (
      fed-append lent (start lent) g.taken (take s.taken window) ∙ ap (λ (x : Machine). fed lent x (take s.taken window)) h.0 ∙ f.0,
      f.1,
    )

stands_on : (lent : List ℕ) (g : Gone) (pieces : List Piece) → Stands lent g → Stands lent (gone_on lent g pieces)
unfolding gone_on
stands_on lent g [] h = h
stands_on lent g (p ∷ ps) h =
    stands_on lent (after g p.window (step_at g.stage lent g.number g.memory p.window p.room)) ps (stands_after lent g p.window p.room h)

-- the bytes that are left end the run as they stand
rest-ends : (stage : Stage) (lent : List ℕ) (n : ℕ) (m : Memory) (text rest : List ℕ) → Fresh stage lent m text → is_rest stage rest ≡ true →
    ended (fed lent (machine_at stage n m [] text) rest) ≡ closed (text ++ ending_text stage n rest) m
unfolding is_rest ended ending_text
rest-ends heading lent n m text [] f r = unfold fed in refl
rest-ends heading lent n m text (b ∷ rest) f r =
    rw (
      f.1,
      f.0,
      header-starts lent n (memory_for lent None) (b ∷ rest) (omega arith),
      opened lent (b ∷ rest),
      opened-short lent (b ∷ rest) (ltb-true (length (b ∷ rest)) header_size r),
    )
rest-ends running lent n m text rest f r =
    rw (run_on lent n m [] rest text (unfold front_of in refl), settled-unfinished lent (front_of rest) n m rest text r)
rest-ends stopped lent n m text rest f r = rw (fed-stopped lent n m [] text rest)

-- the machine, fed the bytes that were taken, stands where the windows have come
pub gone-fed : (lent : List ℕ) (pieces : List Piece) →
    let g = gone_on lent (begun lent) pieces in fed lent (start lent) g.taken ≡ machine_at g.stage g.number g.memory [] g.text
unfolding Stands fed
gone-fed lent pieces = (stands_on lent (begun lent) pieces (refl, (refl, refl))).0

pub any-pieces : AnyPieces
unfolding AnyPieces Stands fed
any-pieces lent pieces rest r =
    let g = gone_on lent (begun lent) pieces in
    let h : Stands lent g = stands_on lent (begun lent) pieces (refl, (refl, refl)) in
    sym (rest-ends g.stage lent g.number g.memory g.text rest h.1 r)
    ∙ ap (λ (s : Machine). ended (fed lent s rest)) (sym h.0)
    ∙ ap ended (sym (fed-append lent (start lent) g.taken rest))
    ∙ fed-whole lent (g.taken ++ rest)

-- where a run takes nothing of a window, no record was passed
none_passed : (room : ℕ) (window : List ℕ) (p : Passed) → p.taken ≤ length window → (run_step room window p).taken ≡ 0 → p.taken ≡ 0
unfolding run_step after_passed
none_passed room window p h = go (bad_next room window p)
  where
    go : (b : Bool) → (after_passed b p (length window)).taken ≡ 0 → p.taken ≡ 0
    go true e = omega (arith, h, e)
    go false e = e

-- nor does a bad record stand at the front
bad-taken : (room n : ℕ) (m : Memory) (window : List ℕ) → line_room ≤ room → front_of window ≡ bad → (run_step room window (passed_to n m 0 [])).taken ≡ length window
unfolding run_step after_passed
bad-taken room n m window h e = rw (e, le-leb line_room (room - 0) (omega (arith, h)))

bad-long : (window : List ℕ) → front_of window ≡ bad → length window ≡ 0 → ⊥
unfolding front_of
bad-long [] e z = let y : ◌≡◌ {A = ℕ} 0 1 = cc in omega arith
bad-long (b ∷ window) e z = omega (arith, z)

whole-passed : (turns room n : ℕ) (m : Memory) (window : List ℕ) {size : ℕ} {r : Request} → line_room ≤ room → length window ≤ turns →
    front_of window ≡ whole size r → 2 ≤ (passed_within turns room n m window).taken
whole-passed zero room n m window h l e = absurd (omega (arith, l, (whole-size window e).0, (whole-size window e).1))
whole-passed (suc turns) room n m window h l e =
    rw (goes_on turns room n m window h e) (omega (arith, (whole-size window e).0))

running-rest : (n : ℕ) (m : Memory) (window : List ℕ) (room : ℕ) → line_room ≤ room → (run_step room window (passed_of room n m window)).taken ≡ 0 →
    unfinished (front_of window) ≡ true
unfolding passed_of
running-rest n m window room enough e = go (front_of window) refl
  where
    p : Passed
    p = passed_within (length window) room n m window

    go : (f : Front) → front_of window ≡ f → unfinished f ≡ true
    go nothing f = refl
    go part f = refl
    go bad f =
        absurd (
        bad-long window f
        (sym (bad-taken room n m window enough f)
        ∙ ap (λ (q : Passed). (run_step room window q).taken) (sym (stops-by-front (length window) room n m window (ap is_whole f)))
        ∙ e)
        )
    go (whole size r) f =
        absurd (
        omega (
          arith,
          whole-passed (length window) room n m window enough (le_refl (length window)) f,
          none_passed room window p (passed-runs (length window) room n m window).inside e,
        )
        )

heading-rest : (lent : List ℕ) (n : ℕ) (m : Memory) (window : List ℕ) (room : ℕ) → line_room ≤ room → (step_at heading lent n m window room).taken ≡ 0 →
    ltb (length window) header_size ≡ true
unfolding step_at
heading-rest lent n m window room enough e = go (leb header_size (length window)) refl (leb line_room room) (le-leb line_room room enough) e
  where
    go : (a : Bool) → leb header_size (length window) ≡ a → (b : Bool) → b ≡ true →
        (cond (a && b) (stepped_to (headed lent (header_of window)) header_size) (stays heading n m)).taken ≡ 0 → ltb (length window) header_size ≡ true
    go false x b y z = lt-ltb (length window) header_size (leb-false header_size (length window) x)
    go true x true y z = absurd (omega (arith, z))
    go true x false y z = cc

pub nothing-taken : NothingTaken
unfolding NothingTaken step_at is_rest
nothing-taken heading lent n m window room enough e = heading-rest lent n m window room enough e
nothing-taken running lent n m window room enough e = running-rest n m window room enough e
nothing-taken stopped lent n m window room enough e = refl
