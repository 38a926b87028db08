-- Running a window, a record at a time: what is run already stands ahead of what the rest comes to. Assumes nothing.
use Prim.Native.Nat.{ℕ, zero, suc, ◌+◌, ◌-◌, ◌≤◌, ◌<◌}
use native.Mathlib.Nat.{le_refl}
use native.Mathlib.Omega.{arith}
use mathlib.Core.Bool.{Bool, true, false, cond}
use mathlib.Core.List.{List, [], ◌++◌, append_assoc, append-nil}
use mathlib.Core.Path.{◌≡◌, refl, sym, ap, ◌∙◌}
use lib.ListN.{length, take, drop, length-drop}
use lib.Seq.{drop-drop}
use Rattle.std.proofs.lemmas.Slice.{between_to_end}
use lib.Dec.{leb}
use borrow.Author.Tests.{le-leb, lt-leb}
use Rattle.calls.specs.Bytes.{written}
use Rattle.arena.specs.declared.Arena.{Arena}
use Rattle.arena.specs.Sound.{sound_of}
use Rattle.requests.specs.Request.{Request}
use Rattle.requests.specs.Front.{Front, nothing, part, bad, whole, front_of}
use Rattle.requests.specs.Header.{Memory}
use Rattle.requests.specs.Run.{Reply, Ran, ran_to, run_in, run}
use Rattle.requests.specs.Text.{line_of}
use Rattle.requests.specs.Inner.{Put}
use Rattle.requests.specs.Window.{memory_of, Passed, passed_to, ahead, line_room, passed_by, passed_within, passed_of, Through}
use Rattle.requests.proofs.Settling.{whole-size}
use Rattle.requests.proofs.Putting.{put-length, put-taken, put_then}
use Rattle.requests.proofs.Lines.{line-length}
use Rattle.requests.proofs.Keeping.{run_sound, run-region}

-- a front that a record is run from
abbrev pub is_whole : Front → Bool
is_whole nothing = false
is_whole part = false
is_whole bad = false
is_whole (whole size r) = true

pub stops-by-front : (turns room n : ℕ) (m : Memory) (window : List ℕ) → is_whole (front_of window) ≡ false →
    passed_within turns room n m window ≡ passed_to n m 0 []
unfolding passed_within passed_by
stops-by-front zero room n m window e = refl
stops-by-front (suc turns) room n m window e = go (leb line_room room) (front_of window) e
  where
    on : ℕ → Memory → ℕ → List ℕ → Passed
    on n' m' size line = passed_within turns (room - length line) n' m' (drop size window)

    go : (t : Bool) (f : Front) → is_whole f ≡ false → cond t (passed_by f n m on) (passed_to n m 0 []) ≡ passed_to n m 0 []
    go false f e = refl
    go true nothing e = refl
    go true part e = refl
    go true bad e = refl
    go true (whole size r) e = cc

pub stops-by-room : (turns room n : ℕ) (m : Memory) (window : List ℕ) → room < line_room → passed_within turns room n m window ≡ passed_to n m 0 []
unfolding passed_within
stops-by-room zero room n m window h = refl
stops-by-room (suc turns) room n m window h = rw (lt-leb line_room room h)

pub goes_on : (turns room n : ℕ) (m : Memory) (window : List ℕ) {size : ℕ} {r : Request} → line_room ≤ room → front_of window ≡ whole size r →
    passed_within (suc turns) room n m window
    ≡ ahead size (line_of n (run r m).reply) (passed_within turns (room - length (line_of n (run r m).reply)) (n + 1) (run r m).memory (drop size window))
unfolding passed_within passed_by
goes_on turns room n m window h e = rw (le-leb line_room room h, e)

-- the bytes of a window that are not taken yet, as the code lends them
pub not_taken : (window : List ℕ) (taken : ℕ) → take (length window - taken) (drop taken window) ≡ drop taken window
not_taken window taken = between_to_end window taken (length window) (le_refl (length window))

-- a whole record at their front lies in the window
pub record Found (window : List ℕ) (taken size : ℕ) (r : Request) : Type 0 where
  pub front : front_of (drop taken window) ≡ whole size r
  pub some : 2 ≤ size
  pub inside : taken + size ≤ length window

pub found : (window : List ℕ) (taken : ℕ) {size : ℕ} {r : Request} → taken ≤ length window →
    whole size r ≡ front_of (take (length window - taken) (drop taken window)) → Found window taken size r
found window taken h e =
    let front = sym (e ∙ ap front_of (not_taken window taken)) in
    let w = whole-size (drop taken window) front in
    record { front = front; some = w.0; inside = omega (arith, w.1, length-drop taken window) }

-- what two records ahead come to together
ahead-ahead : (taken : ℕ) (text : List ℕ) (size : ℕ) (line : List ℕ) (p : Passed) →
    ahead taken text (ahead size line p) ≡ ahead (taken + size) (text ++ line) p
ahead-ahead taken text size line p =
    let sum : taken + (size + p.taken) ≡ taken + size + p.taken = omega arith in
    λ i. passed_to p.number p.memory (sum i) (sym (append_assoc text line p.text) i)

ahead_none : (p : Passed) → p ≡ ahead 0 [] p
ahead_none p = let sum : p.taken ≡ 0 + p.taken = omega arith in λ i. passed_to p.number p.memory (sum i) p.text

-- part of the way: the window comes to what was taken and written, ahead of what the rest comes to
pub record Reached (n : ℕ) (m : Memory) (window out₀ : List ℕ) (a : Arena) (number taken written : ℕ) (bytes out : List ℕ) : Type 0 where
  pub turns : ℕ
  pub comes : passed_of (length out₀) n m window
      ≡ ahead taken (take written out) (passed_within turns (length out₀ - written) number (memory_of a bytes) (drop taken window))
  pub put : Put out₀ 0 (take written out) out written
  pub sound : sound_of a ≡ true
  pub region : length bytes ≡ a.head.region
  pub inside : taken ≤ length window
  pub same : length out ≡ length out₀
  pub fits : written ≤ length out
  -- each request takes a byte at least
  pub counted : number ≤ n + taken
  pub left : length window ≤ taken + turns

pub reached-start : (n : ℕ) (a : Arena) (bytes window out : List ℕ) → sound_of a ≡ true → length bytes ≡ a.head.region →
    Reached n (memory_of a bytes) window out a n 0 0 bytes out
unfolding passed_of written
reached-start n a bytes window out s e =
    let all : length out ≡ length out - 0 = omega arith in
    record {
      turns = length window;
      comes = ap (λ (room : ℕ). passed_within (length window) room n (memory_of a bytes) window) all ∙ ahead_none (passed_within (length window) (length out - 0) n (memory_of a bytes) window);
      put = record { bytes = refl; moved = refl };
      sound = s;
      region = e;
      inside = omega arith;
      same = refl;
      fits = omega arith;
      counted = omega arith;
      left = omega arith;
    }

module _ (n : ℕ) (m : Memory) (window out₀ : List ℕ) (a : Arena) (number taken w : ℕ) (bytes out : List ℕ) (h : Reached n m window out₀ a number taken w bytes out) where
  -- one record more: what was run, the line that was put, and the bytes after it
  pub reached-step : (size : ℕ) (r : Request) (reply : Reply) (after : Arena) (left lines : List ℕ) (next : ℕ) →
      front_of (drop taken window) ≡ whole size r → ran_to reply after left ≡ run_in r a bytes → length left ≡ length bytes → w + line_room ≤ length out →
      Put out w (line_of number reply) lines next → Reached n m window out₀ after (number + 1) (taken + size) next left lines
  reached-step size r reply after left lines next front said same room put = go h.turns h.comes h.left
    where
      short : length (line_of number reply) ≤ 50
      short = line-length number reply

      fits : w + length (line_of number reply) ≤ length out
      fits = omega (arith, short)

      joined : take next lines ≡ take w out ++ line_of number reply
      joined = put-taken fits put

      record-whole : (2 ≤ size) × (size ≤ length (drop taken window))
      record-whole = whole-size (drop taken window) front

      room-left : length out₀ - w - length (line_of number reply) ≡ length out₀ - next
      room-left = omega (arith, put.moved)

      go : (turns : ℕ) → passed_of (length out₀) n m window ≡ ahead taken (take w out) (passed_within turns (length out₀ - w) number (memory_of a bytes) (drop taken window)) →
          length window ≤ taken + turns → Reached n m window out₀ after (number + 1) (taken + size) next left lines
      go zero e l = absurd (omega (arith, record-whole.0, record-whole.1, length-drop taken window))
      go (suc turns) e l =
          let rest : Memory → ℕ → List ℕ → Passed = λ m' room' window'. passed_within turns room' (number + 1) m' window' in
          record {
            turns = turns;
            comes =
                e
                ∙ ap (ahead taken (take w out)) (goes_on turns (length out₀ - w) number (memory_of a bytes) (drop taken window) (omega (arith, h.same)) front)
                ∙ ap (λ (o : Ran). ahead taken (take w out) (ahead size (line_of number o.reply) (rest o.memory (length out₀ - w - length (line_of number o.reply)) (drop size (drop taken window))))) (sym said)
                ∙ ahead-ahead taken (take w out) size (line_of number reply) (rest (memory_of after left) (length out₀ - w - length (line_of number reply)) (drop size (drop taken window)))
                ∙ (λ i. ahead (taken + size) (sym joined i) (rest (memory_of after left) (room-left i) (drop-drop size taken window i)));
            put = rw joined (put_then (omega (arith, h.put.moved, h.fits, h.same)) h.put put);
            sound = ap (λ (o : Ran). sound_of o.memory.arena) said ∙ run_sound r a bytes h.sound;
            region = same ∙ h.region ∙ sym (ap (λ (o : Ran). o.memory.arena.head.region) said ∙ run-region r a bytes);
            inside = omega (arith, length-drop taken window, h.inside, record-whole.1);
            same = put-length fits put ∙ h.same;
            fits = omega (arith, short, put.moved, put-length fits put);
            counted = omega (arith, h.counted, record-whole.0);
            left = omega (arith, record-whole.0);
          }

  -- where it ends
  pub reached-end : passed_within h.turns (length out₀ - w) number (memory_of a bytes) (drop taken window) ≡ passed_to number (memory_of a bytes) 0 [] →
      Through (passed_of (length out₀) n m window) out₀ (record { arena = a; number = number; taken = taken; written = w }) bytes out
  reached-end e =
      let end = h.comes ∙ ap (ahead taken (take w out)) e in
      let all : taken + 0 ≡ taken = omega arith in
      record {
        number = sym (ap (λ (p : Passed). p.number) end);
        memory = sym (ap (λ (p : Passed). p.memory) end);
        taken = sym (ap (λ (p : Passed). p.taken) end ∙ all);
        put = rw (ap (λ (p : Passed). p.text) end ∙ append-nil (take w out)) h.put;
      }
