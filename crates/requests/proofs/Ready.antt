-- A run stays ready: its record is sound, its region no longer than a header may ask for, and its number no more than the bytes that were taken. Assumes
-- nothing.
use Prim.Native.Nat.{ℕ, ◌+◌, ◌-◌, ◌≤◌}
use native.Mathlib.Omega.{arith}
use mathlib.Core.Bool.{Bool, true, false, ◌&&◌, cond}
use mathlib.Core.List.{List, [], ◌∷◌, ◌++◌, append_assoc}
use Rattle.std.specs.Prelude.{Option, None, Some}
use mathlib.Core.Path.{◌≡◌, refl, sym, ap, ◌∙◌}
use lib.Dec.{leb}
use lib.ListN.{length, take, length-append}
use lib.Seq.{length-take-le}
use borrow.Author.Tests.{le-leb}
use Rattle.rounding.proofs.Tests.{and_both}
use Rattle.arena.specs.Record.{holding}
use Rattle.arena.specs.Sound.{allowed_minimum, sound_of}
use Rattle.arena.proofs.Emptied.{emptied-sound}
use Rattle.rounding.specs.Round.{one_bit}
use lib.Count.{ones}
use Rattle.requests.specs.Header.{Header, Memory, header_size, most_region, header_of, memory_for}
use Rattle.requests.specs.Machine.{Stage, heading, running, stopped, headed, ending_text}
use Rattle.requests.specs.Text.{held_line}
use Rattle.requests.specs.Replay.{Replayed}
use Rattle.requests.specs.Window.{Passed, line_room, passed_within, passed_of}
use Rattle.requests.specs.Feed.{Stepped, stepped_to, stays, after_passed, bad_next, run_step, step_at, last_number, ready, step_of, final_text}
use Rattle.requests.specs.Pieces.{Piece, Gone, begun, after, gone_on, AnyPieces, StaysReady, WholeText}
use Rattle.requests.proofs.Feeds.{fresh-settings, header-sound, header-region, step-inside}
use Rattle.requests.proofs.Windows.{Runs, passed-runs}
use Rattle.requests.proofs.Pieces.{any-pieces}

record Able (m : Memory) (n bytes : ℕ) : Type 0 where
  sound : sound_of m.arena ≡ true
  region : m.arena.head.region ≤ most_region
  counted : n ≤ 1 + bytes

-- a step takes so many bytes, and leaves the run able
AbleAfter : ℕ → Stepped → Type 0
AbleAfter bytes s = Able s.after.memory s.after.number (bytes + s.taken)

able-none : (lent : List ℕ) (bytes : ℕ) → Able (memory_for lent None) 1 bytes
unfolding memory_for holding
able-none lent bytes =
    record { sound = emptied-sound (fresh-settings 0 1 (omega arith) (unfold allowed_minimum one_bit ones in refl)) refl; region = omega arith; counted = omega arith }

able-later : {m : Memory} {n bytes more : ℕ} → Able m n bytes → bytes ≤ more → Able m n more
able-later a l = record { sound = a.sound; region = a.region; counted = omega (arith, a.counted) }

able-headed : (lent bytes : List ℕ) (k : ℕ) (o : Option Header) → header_of bytes ≡ o → AbleAfter k (stepped_to (headed lent o) header_size)
unfolding AbleAfter headed memory_for
able-headed lent bytes k None e = able-none lent (k + header_size)
able-headed lent bytes k (Some h) e =
    let r = header-region bytes e in record { sound = header-sound bytes e; region = omega (arith, r.0, r.1); counted = omega arith }

able-heading : (lent : List ℕ) (n : ℕ) (m : Memory) (window : List ℕ) (room k : ℕ) → Able m n k → AbleAfter k (step_at heading lent n m window room)
unfolding step_at AbleAfter
able-heading lent n m window room k a = go (leb header_size (length window) && leb line_room room)
  where
    go : (b : Bool) → AbleAfter k (cond b (stepped_to (headed lent (header_of window)) header_size) (stays heading n m))
    go true = able-headed lent window k (header_of window) refl
    go false = able-later a (omega arith)

able-running : (lent : List ℕ) (n : ℕ) (m : Memory) (window : List ℕ) (room k : ℕ) → Able m n k → AbleAfter k (step_at running lent n m window room)
unfolding step_at run_step after_passed passed_of AbleAfter
able-running lent n m window room k a = go (passed_within (length window) room n m window) (passed-runs (length window) room n m window)
  where
    passes : (p : Passed) → Runs room n m window p → (more : ℕ) → p.taken ≤ more → Able p.memory p.number (k + more)
    passes p h more l = record { sound = h.sound a.sound; region = omega (arith, h.region, a.region); counted = omega (arith, h.counted, a.counted, l) }

    by : (p : Passed) → Runs room n m window p → (b : Bool) → AbleAfter k (after_passed b p (length window))
    by p h true = passes p h (length window) h.inside
    by p h false = passes p h p.taken (omega arith)

    go : (p : Passed) → Runs room n m window p → AbleAfter k (run_step room window p)
    go p h = by p h (bad_next room window p)

able-step : (stage : Stage) (lent : List ℕ) (n : ℕ) (m : Memory) (window : List ℕ) (room k : ℕ) → Able m n k → AbleAfter k (step_at stage lent n m window room)
unfolding step_at AbleAfter
able-step heading lent n m window room k a = able-heading lent n m window room k a
able-step running lent n m window room k a = able-running lent n m window room k a
able-step stopped lent n m window room k a = able-later a (omega arith)

able-on : (lent : List ℕ) (g : Gone) (pieces : List Piece) → Able g.memory g.number (length g.taken) →
    let h = gone_on lent g pieces in Able h.memory h.number (length h.taken)
unfolding gone_on AbleAfter step_of
able-on lent g [] a = a
able-on lent g (p ∷ ps) a =
    let s = step_at g.stage lent g.number g.memory p.window p.room in
    let inside = (step-inside true g.stage lent g.number g.memory p.window p.room).taken in
    let taken : length g.taken + s.taken ≤ length (g.taken ++ take s.taken p.window) =
    omega (arith, length-append g.taken (take s.taken p.window), length-take-le s.taken p.window inside) in
    able-on lent (after g p.window s) ps (able-later (able-step g.stage lent g.number g.memory p.window p.room (length g.taken) a) taken)

pub stays-ready : StaysReady
unfolding StaysReady ready
stays-ready lent pieces window long few =
    let g = gone_on lent (begun lent) pieces in
    let a = able-on lent (begun lent) pieces (able-none lent 0) in
    and_both (le-leb most_region (length lent) long)
    (and_both (le-leb g.memory.arena.head.region (length lent) (omega (arith, a.region, long)))
    (and_both (le-leb g.number (last_number - length window) (omega (arith, a.counted, few))) a.sound))

pub whole-text : WholeText
unfolding WholeText final_text AnyPieces
whole-text lent pieces rest r =
    let g = gone_on lent (begun lent) pieces in
    sym (append_assoc g.text (ending_text g.stage g.number rest) (held_line g.memory.arena)) ∙ ap (λ (x : Replayed). x.text) (any-pieces lent pieces rest r)
