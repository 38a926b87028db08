-- What feeding a window comes to, by the stage and the tests on the window and the output. Assumes nothing.
use Prim.Native.Nat.{ℕ, ◌+◌, ◌-◌, ◌≤◌, ◌<◌, ◌^◌}
use native.Mathlib.Omega.{arith}
use mathlib.Core.Bool.{Bool, true, false, ◌&&◌, cond}
use mathlib.Core.List.{List, [], ◌++◌}
use Rattle.std.specs.Prelude.{Option, None, Some, ⊤}
use mathlib.Core.Path.{◌≡◌, refl, sym, ap, ◌∙◌, subst}
use lib.Dec.{leb, eqb}
use lib.ListN.{length, take, drop, length-append}
use lib.Seq.{take_at, drop_at}
use borrow.Author.Tests.{le-leb, lt-leb, leb-true}
use Rattle.rounding.proofs.Tests.{and_left, and_right}
use Rattle.rounding.proofs.First.{only-passed}
use Rattle.arena.specs.declared.Arena.{Arena}
use Rattle.arena.specs.declared.Outcome.{Outcome}
use Rattle.arena.specs.Record.{holding}
use Rattle.arena.specs.Sound.{allowed_minimum, limit_formed, sound_of}
use Rattle.arena.specs.Creation.{fresh_head, created_of}
use Rattle.arena.proofs.Made.{made-empty}
use Rattle.arena.proofs.Emptied.{emptied-sound}
use Rattle.arena.proofs.Soundness.{Settings, minimum-open}
use Rattle.arena.specs.Numbers.{most}
use Rattle.calls.specs.Bytes.{written}
use Rattle.requests.specs.declared.machine.State.{State}
use Rattle.requests.specs.declared.machine.Fed.{Fed}
use Rattle.requests.specs.Bytes.{byte_at, number32}
use Rattle.requests.specs.Header.{Header, Memory, header_size, most_region, good_header, header_of, memory_for}
use Rattle.requests.specs.Machine.{Stage, heading, running, stopped, machine_at, headed}
use Rattle.requests.specs.Front.{front_of}
use Rattle.requests.specs.Text.{decimal, bad_record_text, ending_line}
use Rattle.requests.specs.Inner.{Put}
use Rattle.requests.specs.declared.Stage.TheVariants.{Running, Stopped}
use Rattle.requests.proofs.Decimal.{decimal-length}
use Rattle.requests.proofs.Putting.{put_then}
use Rattle.requests.specs.declared.window.Progress.{Progress}
use Rattle.requests.specs.Window.{memory_of, Passed, line_room, passed_within, passed_of, Through}
use Rattle.requests.proofs.Windows.{Runs, passed-runs}
use Rattle.requests.specs.Feed.{Stepped, stepped_to, stays, is_bad, after_passed, bad_next, run_step, step_at, last_number, ready, step_of, stage_said, memory_in, ThroughLent, Came}

-- nothing is put
pub put-none : (out : List ℕ) → Put out 0 [] out 0
unfolding written
put-none out = record { bytes = refl; moved = refl }

-- a state that stays, and nothing written
pub came-still : {stage : Stage} {taken : ℕ} (s : State) (got : Fed) (lent out : List ℕ) → stage_said s.stage ≡ stage →
    (got.state ≡ s) × (got.taken ≡ taken) × (got.written ≡ 0) →
    Came (stepped_to (machine_at stage s.number (memory_in s.arena lent) [] []) taken) lent out got lent out
came-still s got lent out e g =
    record {
      stage = ap (λ (x : State). stage_said x.stage) g.0 ∙ e;
      number = ap (λ (x : State). x.number) g.0;
      memory = ap (λ (x : State). memory_in x.arena lent) g.0;
      beyond = refl;
      taken = g.1;
      put = rw g.2 (put-none out);
    }

module _ (lent : List ℕ) (n : ℕ) (m : Memory) (window : List ℕ) (room : ℕ) where
  pub heading-short : length window < header_size → step_at heading lent n m window room ≡ stays heading n m
  unfolding step_at
  heading-short h = rw (lt-leb header_size (length window) h)

  pub heading-no-room : header_size ≤ length window → room < line_room → step_at heading lent n m window room ≡ stays heading n m
  unfolding step_at
  heading-no-room h r = rw (le-leb header_size (length window) h, lt-leb line_room room r)

  pub heading-opens : {o : Option Header} → header_size ≤ length window → line_room ≤ room → header_of window ≡ o →
      step_at heading lent n m window room ≡ stepped_to (headed lent o) header_size
  unfolding step_at
  heading-opens h r e = rw (le-leb header_size (length window) h, le-leb line_room room r, e)

pub fresh-settings : (region minimum : ℕ) → region ≤ most → allowed_minimum minimum ≡ true → Settings (fresh_head region minimum)
unfolding limit_formed
fresh-settings region minimum r m =
    let allowed = minimum-open minimum m in
    record { minimum-power = allowed.power; minimum-bound = allowed.bound; region_bound = r; limit-formed = refl }

-- a good header's arena is made, empty
record Made (h : Header) : Type 0 where
  region : h.region ≤ most_region
  minimum : allowed_minimum h.minimum ≡ true
  empty : (created_of h.region h.minimum 0).arena ≡ holding (fresh_head h.region h.minimum) []

header_made : (bytes : List ℕ) {h : Header} → header_of bytes ≡ Some h → Made h
unfolding header_of good_header
header_made bytes {h} e =
    let p = only-passed (good_header bytes) (record { minimum = byte_at bytes 1; region = number32 bytes 2 }) e in
    let rest = and_right (eqb (byte_at bytes 0) 1) _ (and_right (leb header_size (length bytes)) _ p.0) in
    let short : number32 bytes 2 ≤ most_region = leb-true (number32 bytes 2) most_region (and_right (allowed_minimum (byte_at bytes 1)) _ rest) in
    let allowed = and_left (allowed_minimum (byte_at bytes 1)) _ rest in
    subst Made p.1
    (record {
      region = short;
      minimum = allowed;
      empty = ap (λ (o : Outcome ⊤). o.arena) (made-empty (number32 bytes 2) (byte_at bytes 1) 0 (omega (arith, short)) (omega arith) allowed refl);
    })

pub header-region : (bytes : List ℕ) {h : Header} → header_of bytes ≡ Some h →
    ((created_of h.region h.minimum 0).arena.head.region ≡ h.region) × (h.region ≤ most_region)
unfolding holding
header-region bytes e = let m = header_made bytes e in (ap (λ (a : Arena). a.head.region) m.empty, m.region)

pub header-sound : (bytes : List ℕ) {h : Header} → header_of bytes ≡ Some h → sound_of (created_of h.region h.minimum 0).arena ≡ true
header-sound bytes e = let m = header_made bytes e in emptied-sound (fresh-settings _ _ (omega (arith, m.region)) m.minimum) m.empty

-- the memory of a good header, from the arena that was made
pub header-memory : (lent bytes : List ℕ) {h : Header} (made : Outcome ⊤) → header_of bytes ≡ Some h → made ≡ created_of h.region h.minimum 0 →
    memory_in made.arena lent ≡ memory_for lent (Some h)
unfolding memory_for
header-memory lent bytes {h} made e m =
    ap (λ (o : Outcome ⊤). memory_in o.arena lent) m
    ∙ ap (λ (k : ℕ). memory_of (created_of h.region h.minimum 0).arena (take k lent)) (header-region bytes e).0

-- the memory of a bad one
pub no-memory : (lent : List ℕ) (a : Arena) → a ≡ holding (fresh_head 0 1) [] → memory_in a lent ≡ memory_for lent None
unfolding memory_for holding
no-memory lent a e = ap (λ (a : Arena). memory_in a lent) e

-- a window that was run in the region's part of the lent bytes, which is put back before the rest
module _ (a : Arena) (n : ℕ) (lent window out₀ : List ℕ) {got : Progress} {bytes out : List ℕ}
    (t : Through (passed_of (length out₀) n (memory_in a lent) window) out₀ got bytes out) (same : length bytes ≡ a.head.region) where
  runs : Runs (length out₀) n (memory_in a lent) window (passed_of (length out₀) n (memory_in a lent) window)
  unfolding passed_of
  runs = passed-runs (length window) (length out₀) n (memory_in a lent) window

  region-kept : got.arena.head.region ≡ a.head.region
  region-kept = ap (λ (m : Memory). m.arena.head.region) t.memory ∙ runs.region

  pub lent-through : ThroughLent (passed_of (length out₀) n (memory_in a lent) window) lent out₀ got (bytes ++ drop a.head.region lent) out
  lent-through =
      let rest = drop a.head.region lent in
      record {
        through = rw (take_at bytes rest got.arena.head.region (same ∙ sym region-kept)) t;
        beyond = drop_at bytes rest got.arena.head.region (same ∙ sym region-kept) ∙ ap (λ (k : ℕ). drop k lent) (sym region-kept);
      }

  pub through-inside : got.taken ≤ length window
  through-inside = omega (arith, t.taken, runs.inside)

  pub through-fits : length out ≡ length out₀ → got.written ≤ length out
  through-fits e = omega (arith, t.put.moved, runs.fits)

-- what a run comes to, from the window that was run
module _ (a : Arena) (n : ℕ) (lent window out₀ : List ℕ) {got : Progress} {lent' out : List ℕ}
    (t : ThroughLent (passed_of (length out₀) n (memory_in a lent) window) lent out₀ got lent' out) (same : length out ≡ length out₀) where
  came : Passed
  came = passed_of (length out₀) n (memory_in a lent) window

  ends_at : got.written ≡ length came.text
  unfolding came
  ends_at = omega (arith, t.through.put.moved)

  by-test : {stops : Bool} → bad_next (length out₀) window came ≡ stops →
      step_at running lent n (memory_in a lent) window (length out₀) ≡ after_passed stops came (length window)
  unfolding step_at run_step came
  by-test e = ap (λ (b : Bool). after_passed b came (length window)) e

  runs_on : bad_next (length out₀) window came ≡ false →
      Came (step_at running lent n (memory_in a lent) window (length out₀)) lent out₀
      (record { state = record { stage = Running; number = got.number; arena = got.arena }; taken = got.taken; written = got.written }) lent' out
  unfolding after_passed stage_said came
  runs_on e =
      rw (by-test e)
      (record {
        stage = refl;
        number = t.through.number;
        memory = t.through.memory;
        beyond = t.beyond;
        taken = t.through.taken;
        put = t.through.put;
      })

  -- the code's test is the definition's
  tested : (leb line_room (length out - got.written) && is_bad (front_of (drop got.taken window))) ≡ bad_next (length out₀) window came
  unfolding came
  tested =
      let room : length out - got.written ≡ length out₀ - length came.text = omega (arith, ends_at, same) in
      rw (room, t.through.taken)

  pub came-good : leb line_room (length out - got.written) && is_bad (front_of (drop got.taken window)) ≡ false →
      Came (step_at running lent n (memory_in a lent) window (length out₀)) lent out₀
      (record { state = record { stage = Running; number = got.number; arena = got.arena }; taken = got.taken; written = got.written }) lent' out
  came-good b = runs_on (sym tested ∙ b)

  pub came-bad : {out' : List ℕ} {w : ℕ} → leb line_room (length out - got.written) && is_bad (front_of (drop got.taken window)) ≡ true →
      Put out got.written (decimal got.number ++ bad_record_text) out' w →
      Came (step_at running lent n (memory_in a lent) window (length out₀)) lent out₀
      (record { state = record { stage = Stopped; number = got.number; arena = got.arena }; taken = length window; written = w }) lent' out'
  unfolding after_passed stage_said came ending_line
  came-bad b q =
      let room = leb-true line_room (length out - got.written) (and_left (leb line_room (length out - got.written)) _ b) in
      rw (by-test {stops = true} (sym tested ∙ b))
      (record {
        stage = refl;
        number = t.through.number;
        memory = t.through.memory;
        beyond = t.beyond;
        taken = refl;
        put = rw (sym t.through.number) (put_then (omega (arith, ends_at, same, room)) t.through.put q);
      })

-- a state that is ready
pub ready-open : (a : Arena) (n lent window : ℕ) → window ≤ last_number → ready a n lent window ≡ true →
    (sound_of a ≡ true) × (a.head.region ≤ lent) × (n + window < 2 ^ 64)
unfolding ready
ready-open a n lent window w e =
    let later = and_right (leb most_region lent) _ e in
    let last = and_right (leb a.head.region lent) _ later in
    let counted : n ≤ last_number - window = leb-true n (last_number - window) (and_left (leb n (last_number - window)) _ last) in
    (and_right (leb n (last_number - window)) _ last, leb-true a.head.region lent (and_left (leb a.head.region lent) _ later), omega (arith, w, counted))

-- no more is taken than the window has, nor written than the output
pub record Inside (s : Stepped) (window : List ℕ) (room : ℕ) : Type 0 where
  pub taken : s.taken ≤ length window
  pub text : length s.after.text ≤ room

stays-inside : (stage : Stage) (n : ℕ) (m : Memory) (window : List ℕ) (room : ℕ) → Inside (stays stage n m) window room
stays-inside stage n m window room = record { taken = omega arith; text = omega arith }

heading-inside : (lent : List ℕ) (n : ℕ) (m : Memory) (window : List ℕ) (room : ℕ) → Inside (step_at heading lent n m window room) window room
unfolding step_at headed
heading-inside lent n m window room = go (leb header_size (length window)) refl (leb line_room room) refl (header_of window)
  where
    go : (a : Bool) → leb header_size (length window) ≡ a → (b : Bool) → leb line_room room ≡ b → (o : Option Header) →
        Inside (cond (a && b) (stepped_to (headed lent o) header_size) (stays heading n m)) window room
    go false x b y o = stays-inside heading n m window room
    go true x false y o = stays-inside heading n m window room
    go true x true y None = record { taken = leb-true header_size (length window) x; text = omega (arith, leb-true line_room room y) }
    go true x true y (Some h) = record { taken = leb-true header_size (length window) x; text = omega arith }

running-inside : (lent : List ℕ) (n : ℕ) (m : Memory) (window : List ℕ) (room : ℕ) → Inside (step_at running lent n m window room) window room
unfolding step_at run_step after_passed ending_line passed_of
running-inside lent n m window room =
    go (passed_within (length window) room n m window) (passed-runs (length window) room n m window)
  where
    by : (p : Passed) → Runs room n m window p → (b : Bool) → bad_next room window p ≡ b →
        Inside (after_passed b p (length window)) window room
    by p h false e = record { taken = h.inside; text = h.fits }
    by p h true e =
        let enough : line_room ≤ room - length p.text = leb-true line_room (room - length p.text) (and_left (leb line_room (room - length p.text)) _ e) in
        record {
          taken = omega arith;
          text =
              omega (
                arith,
                enough,
                length-append p.text (decimal p.number ++ bad_record_text),
                length-append (decimal p.number) bad_record_text,
                decimal-length p.number,
              );
        }

    go : (p : Passed) → Runs room n m window p → Inside (run_step room window p) window room
    go p h = by p h (bad_next room window p) refl

pub step-inside : (ready : Bool) (stage : Stage) (lent : List ℕ) (n : ℕ) (m : Memory) (window : List ℕ) (room : ℕ) →
    Inside (step_of ready stage lent n m window room) window room
unfolding step_of step_at
step-inside false stage lent n m window room = stays-inside stage n m window room
step-inside true heading lent n m window room = heading-inside lent n m window room
step-inside true running lent n m window room = running-inside lent n m window room
step-inside true stopped lent n m window room = record { taken = omega arith; text = omega arith }

came-inside : {s : Stepped} {lent₀ out₀ : List ℕ} {got : Fed} {lent out window : List ℕ} → Came s lent₀ out₀ got lent out →
    Inside s window (length out₀) → length out ≡ length out₀ → (got.taken ≤ length window) × (got.written ≤ length out)
came-inside c i e = (omega (arith, c.taken, i.taken), omega (arith, c.put.moved, i.text, e))

-- from what is known of the state
pub came-known : (s : State) (lent window out₀ : List ℕ) {b : Bool} {stage : Stage} {got : Fed} {lent' out : List ℕ} →
    ready s.arena s.number (length lent) (length window) ≡ b → stage_said s.stage ≡ stage → length out ≡ length out₀ →
    Came (step_of b stage lent s.number (memory_in s.arena lent) window (length out₀)) lent out₀ got lent' out →
    Came
    (step_of (ready s.arena s.number (length lent) (length window)) (stage_said s.stage) lent s.number (memory_in s.arena lent) window (length out₀))
    lent out₀ got lent' out × ((got.taken ≤ length window) × (got.written ≤ length out))
came-known s lent window out₀ {b} {stage} e f same c =
    rw (e, f) (c, came-inside c (step-inside b stage lent s.number (memory_in s.arena lent) window (length out₀)) same)
