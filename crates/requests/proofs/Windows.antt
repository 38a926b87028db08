-- What a window comes to is the machine, fed the bytes that were taken; and it keeps inside the window, the output and the record. Assumes nothing.
use Prim.Native.Nat.{ℕ, zero, suc, ◌+◌, ◌-◌, ◌≤◌}
use native.Mathlib.Omega.{arith}
use mathlib.Core.Bool.{Bool, true, false, cond}
use mathlib.Core.List.{List, [], ◌++◌, append_assoc, append-nil}
use mathlib.Core.Path.{◌≡◌, refl, sym, ap, ◌∙◌}
use lib.Dec.{leb}
use lib.ListN.{length, take, drop, length-append, length-drop}
use lib.Seq.{take-add}
use borrow.Author.Tests.{leb-true}
use Rattle.arena.specs.Sound.{sound_of}
use Rattle.requests.specs.Front.{Front, nothing, part, bad, whole, front_of}
use Rattle.requests.specs.Header.{Memory}
use Rattle.requests.specs.Run.{run}
use Rattle.requests.specs.Text.{line_of}
use Rattle.requests.specs.Machine.{Machine, running, machine_at, fed}
use Rattle.requests.specs.Window.{Passed, passed_to, line_room, passed_by, passed_within}
use Rattle.requests.proofs.Settling.{whole-size}
use Rattle.requests.proofs.Feeding.{fed-append, record-fed}
use Rattle.requests.proofs.Keeping.{run_sound, run-region}
use Rattle.requests.proofs.Lines.{line-length}

pub record Runs (room n : ℕ) (m : Memory) (window : List ℕ) (p : Passed) : Type 0 where
  pub comes : (lent text : List ℕ) →
      fed lent (machine_at running n m [] text) (take p.taken window) ≡ machine_at running p.number p.memory [] (text ++ p.text)
  pub inside : p.taken ≤ length window
  pub fits : length p.text ≤ room
  pub region : p.memory.arena.head.region ≡ m.arena.head.region
  pub sound : sound_of m.arena ≡ true → sound_of p.memory.arena ≡ true
  -- each request takes a byte at least
  pub counted : p.number ≤ n + p.taken

runs_none : (room n : ℕ) (m : Memory) (window : List ℕ) → Runs room n m window (passed_to n m 0 [])
unfolding fed
runs_none room n m window =
    record {
      comes = λ lent text. ap (machine_at running n m []) (sym (append-nil text));
      inside = omega arith;
      fits = omega arith;
      region = refl;
      sound = λ s. s;
      counted = omega arith;
    }

pub passed-runs : (turns room n : ℕ) (m : Memory) (window : List ℕ) → Runs room n m window (passed_within turns room n m window)
unfolding passed_within passed_by
passed-runs zero room n m window = runs_none room n m window
passed-runs (suc turns) room n m window = go (leb line_room room) refl (front_of window) refl (passed-runs turns)
  where
    on : ℕ → Memory → ℕ → List ℕ → Passed
    on n' m' size line = passed_within turns (room - length line) n' m' (drop size window)

    go : (t : Bool) → leb line_room room ≡ t → (f : Front) → front_of window ≡ f →
        ((room n : ℕ) (m : Memory) (window : List ℕ) → Runs room n m window (passed_within turns room n m window)) →
        Runs room n m window (cond t (passed_by f n m on) (passed_to n m 0 []))
    go false t f e again = runs_none room n m window
    go true t nothing e again = runs_none room n m window
    go true t part e again = runs_none room n m window
    go true t bad e again = runs_none room n m window
    go true t (whole size r) e again =
        let ran_to = run r m in
        let line = line_of n ran_to.reply in
        let h = again (room - length line) (n + 1) ran_to.memory (drop size window) in
        let s = whole-size window e in
        let later = on (n + 1) ran_to.memory size line in
        let enough : line_room ≤ room = leb-true line_room room t in
        record {
          comes = λ lent text.
              ap (fed lent (machine_at running n m [] text)) (take-add size later.taken window)
              ∙ fed-append lent (machine_at running n m [] text) (take size window) (take later.taken (drop size window))
              ∙ ap (λ (s : Machine). fed lent s (take later.taken (drop size window))) (record-fed lent n m window text e)
              ∙ h.comes lent (text ++ line)
              ∙ ap (machine_at running later.number later.memory []) (append_assoc text line later.text);
          inside = omega (arith, h.inside, length-drop size window, s.1);
          fits = omega (arith, h.fits, length-append line later.text, line-length n ran_to.reply);
          region = h.region ∙ run-region r m.arena m.bytes;
          sound = λ held. h.sound (run_sound r m.arena m.bytes held);
          counted = omega (arith, h.counted, s.0);
        }
