-- Every passage stands where the machine does that was fed the bytes taken, since each event keeps it so; and the end adds what the definition adds. Assumes
-- nothing.
use Prim.{Unit, tt}
use Prim.Native.Nat.{ℕ, ◌≤◌, ◌<◌}
use native.Mathlib.Omega.{arith}
use mathlib.Core.Bool.{Bool, true, false, ◌&&◌, cond}
use mathlib.Core.List.{List, [], ◌∷◌, ◌++◌, append_assoc, append-nil}
use Rattle.std.specs.Prelude.{Option, None, Some}
use mathlib.Core.Path.{◌≡◌, refl, sym, ap, ◌∙◌, subst}
use lib.Dec.{leb, ltb, eqb}
use lib.ListN.{length, take, drop, length-append, take-append-drop}
use borrow.Author.Tests.{le-leb, ltb-true, eqb-true}
use Rattle.arena.specs.Record.{holding}
use Rattle.arena.specs.Sound.{sound_of}
use Rattle.requests.specs.Header.{Header, Memory, header_size, most_region, header_of, memory_for}
use Rattle.requests.specs.Machine.{Stage, heading, running, stopped, Machine, machine_at, start, headed, fed, ending_text}
use Rattle.requests.specs.Text.{held_line}
use Rattle.requests.specs.Replay.{replay_of}
use Rattle.requests.specs.Window.{Passed, line_room, passed_of}
use Rattle.requests.specs.Feed.{Stepped, stepped_to, stays, after_passed, bad_next, run_step, step_at, last_number, ready, step_of, end_room, final_text}
use Rattle.requests.specs.Pieces.{Piece, Gone, begun, after, gone_on, is_rest, NothingTaken, StaysReady, WholeText}
use Rattle.requests.proofs.Feeds.{ready-open}
use Rattle.requests.proofs.Pieces.{nothing-taken, gone-fed}
use Rattle.requests.proofs.Ready.{stays-ready, whole-text}
use Rattle.relay.specs.declared.Next.{Next}
use Rattle.relay.specs.declared.Next.TheVariants.{Feed, Read, Write, Done, ReadFailed, WriteFailed, TooLong}
use Rattle.relay.specs.Passage.{Passage, begun_with, lent_bytes, asked}
use Rattle.relay.specs.Event.{Event, feeds, gives, ends, read_fails, takes, write_fails, Sizes, sizes, stepped, asks_fed, after_fed, after_got, after_end, asks_took, after_took, fed_on, read_on, written_on, goes_on, after_event, passed_on}
use Rattle.relay.specs.Passing.{Begins, Standing, Passing, EveryPassage}
use Rattle.relay.proofs.Growing.{text-begins}

-- one window more at the end of the row
gone-more : (lent : List ℕ) (g : Gone) (pieces : List Piece) (q : Piece) →
    let h = gone_on lent g pieces in
    gone_on lent g (pieces ++ (q ∷ [])) ≡ after h q.window (step_at h.stage lent h.number h.memory q.window q.room)
unfolding gone_on
gone-more lent g [] q = refl
gone-more lent g (p ∷ ps) q = gone-more lent (after g p.window (step_at g.stage lent g.number g.memory p.window p.room)) ps q

-- a step looks at the lent bytes only before the header is whole
step-lent : (stage : Stage) (lent lent' : List ℕ) (n : ℕ) (m : Memory) (window : List ℕ) (room : ℕ) → (stage ≡ heading → lent' ≡ lent) →
    step_at stage lent' n m window room ≡ step_at stage lent n m window room
unfolding step_at
step-lent heading lent lent' n m window room h = rw (h refl)
step-lent running lent lent' n m window room h = refl
step-lent stopped lent lent' n m window room h = refl

-- where the header is still to come after a step, nothing was done
Waits : Stage → ℕ → Memory → Stepped → Type 0
Waits stage n m s = s.after.stage ≡ heading → (stage ≡ heading) × (s.after.memory ≡ m)

step_waits : (stage : Stage) (lent : List ℕ) (n : ℕ) (m : Memory) (window : List ℕ) (room : ℕ) → Waits stage n m (step_at stage lent n m window room)
unfolding step_at run_step after_passed headed Waits
step_waits heading lent n m window room = go (leb header_size (length window) && leb line_room room) (header_of window)
  where
    go : (b : Bool) (o : Option Header) → Waits heading n m (cond b (stepped_to (headed lent o) header_size) (stays heading n m))
    go true None e = cc
    go true (Some h) e = cc
    go false o e = (refl, refl)
step_waits running lent n m window room = go (bad_next room window (passed_of room n m window)) (passed_of room n m window)
  where
    go : (b : Bool) (p : Passed) → Waits running n m (after_passed b p (length window))
    go true p e = cc
    go false p e = cc
step_waits stopped lent n m window room = λ e. cc

-- what is no whole record stays none where nothing was taken
RestAfter : List ℕ → Stage → Stepped → Type 0
RestAfter window stage s = s.taken ≡ 0 → is_rest stage window ≡ true → is_rest s.after.stage window ≡ true

rest-after : (stage : Stage) (lent : List ℕ) (n : ℕ) (m : Memory) (window : List ℕ) (room : ℕ) → RestAfter window stage (step_at stage lent n m window room)
unfolding step_at run_step after_passed RestAfter is_rest
rest-after heading lent n m window room = go (leb header_size (length window) && leb line_room room)
  where
    go : (b : Bool) → RestAfter window heading (cond b (stepped_to (headed lent (header_of window)) header_size) (stays heading n m))
    go true e h = absurd (omega (arith, e))
    go false e h = h
rest-after running lent n m window room = go (bad_next room window (passed_of room n m window)) (passed_of room n m window)
  where
    go : (b : Bool) (p : Passed) → RestAfter window running (after_passed b p (length window))
    go true p e h = refl
    go false p e h = h
rest-after stopped lent n m window room = λ e h. refl

held-some : (p : Passage) → 0 < length (final_text true p.stage p.number p.memory.arena p.pending)
unfolding final_text held_line
held-some p =
    omega (arith, length-append (ending_text p.stage p.number p.pending) (held_line p.memory.arena))

abbrev gone_at : List ℕ → List ℕ → Stage → ℕ → Memory → Gone
gone_at taken text stage number memory = record { taken = taken; text = text; stage = stage; number = number; memory = memory }

-- before the end: after some windows, of which these bytes were taken
record Before (lent : List ℕ) (p : Passage) : Type 0 where
  pieces : List Piece
  taken : List ℕ
  gone : gone_on lent (begun lent) pieces ≡ gone_at taken (p.written ++ p.text) p.stage p.number p.memory
  all : taken ++ p.pending ≡ p.read
  fresh : p.stage ≡ heading → (p.memory ≡ memory_for lent None) × (p.beyond ≡ lent)

Stand : Bool → List ℕ → Passage → Type 0
Stand false lent p = Before lent p
Stand true lent p = p.written ++ p.text ≡ (replay_of lent p.read).text

-- what is known by what is asked
Asked : Next → Bool → List ℕ → Stage → List ℕ → ℕ → Type 0
Asked Feed false text stage pending input = text ≡ []
Asked Read false text stage pending input = (text ≡ []) × (is_rest stage pending ≡ true) × (length pending < input)
Asked Write over text stage pending input = 0 < length text
Asked Done true text stage pending input = text ≡ []
Asked ReadFailed false text stage pending input = Unit
Asked WriteFailed over text stage pending input = 0 < length text
Asked TooLong false text stage pending input = Unit
Asked next over text stage pending input = ⊥

record Kept (lent : List ℕ) (input : ℕ) (p : Passage) : Type 0 where
  stand : Stand p.ended lent p
  knows : Asked p.asks p.ended p.text p.stage p.pending input

module _ (lent : List ℕ) (input output : ℕ) (long : most_region ≤ length lent) (enough : end_room ≤ output) where
  abbrev z : Sizes
  z = sizes (length lent) input output

  module _ (p : Passage) (few : length p.read < last_number) where
    is-ready : Before lent p → ready p.memory.arena p.number (length lent) (length p.pending) ≡ true
    unfolding StaysReady
    is-ready b =
        let count = length-append b.taken p.pending in
        let read = ap length b.all in
        let g = b.gone in
        ap (λ (x : Gone). ready x.memory.arena x.number (length lent) (length p.pending)) (sym g)
        ∙ stays-ready lent b.pieces p.pending long (omega (arith, count, read, few, ap (λ (x : Gone). length x.taken) g))

    is-sound : Before lent p → sound_of p.memory.arena ≡ true
    is-sound b =
        (ready-open p.memory.arena p.number (length lent) (length p.pending)
        (omega (arith, length-append b.taken p.pending, ap length b.all, few)) (is-ready b)).0

    -- what feeding comes to
    abbrev step : Stepped
    step = step_at p.stage lent p.number p.memory p.pending output

    lent-now : Before lent p → p.stage ≡ heading → lent_bytes p ≡ lent
    unfolding memory_for
    lent-now b e = let f = b.fresh e in rw (f.0, f.1)

    is-step : Before lent p → stepped z p ≡ step
    unfolding step_of
    is-step b = rw (is-ready b) (step-lent p.stage lent (lent_bytes p) p.number p.memory p.pending output (lent-now b))

    -- while the header is not whole the lent bytes are as they were
    waited : Before lent p → (p.stage ≡ heading) × (step.after.memory ≡ p.memory) →
        (step.after.memory ≡ memory_for lent None) × (drop step.after.memory.arena.head.region (lent_bytes p) ≡ lent)
    unfolding memory_for holding
    waited b w =
        let none_yet = w.1 ∙ (b.fresh w.0).0 in
        (none_yet, ap (λ (m : Memory). drop m.arena.head.region (lent_bytes p)) none_yet ∙ lent-now b w.0)

    fed-before : Before lent p → p.text ≡ [] → Before lent (after_fed z p step)
    unfolding after_fed Waits
    fed-before b empty =
        let piece : Piece = record { window = p.pending; room = output } in
        record {
          pieces = b.pieces ++ (piece ∷ []);
          taken = b.taken ++ take step.taken p.pending;
          gone =
              gone-more lent (begun lent) b.pieces piece
              ∙ ap (λ (x : Gone). after x p.pending (step_at x.stage lent x.number x.memory p.pending output)) b.gone
              ∙ ap
              (λ (l : List ℕ).
              gone_at (b.taken ++ take step.taken p.pending) (l ++ step.after.text) step.after.stage step.after.number step.after.memory)
              (ap (λ (l : List ℕ). p.written ++ l) empty ∙ append-nil p.written);
          all =
              append_assoc b.taken (take step.taken p.pending) (drop step.taken p.pending)
              ∙ ap (λ (l : List ℕ). b.taken ++ l) (take-append-drop step.taken p.pending)
              ∙ b.all;
          fresh = λ e. waited b (step_waits p.stage lent p.number p.memory p.pending output e);
        }

    nothing-rest : step.taken ≡ 0 → is_rest step.after.stage p.pending ≡ true
    unfolding NothingTaken RestAfter
    nothing-rest e =
        rest-after p.stage lent p.number p.memory p.pending output e
        (nothing-taken p.stage lent p.number p.memory p.pending output (omega (arith, enough)) e)

    fed-knows : (text : List ℕ) → step.after.text ≡ text →
        Asked (asks_fed input text step.taken (length p.pending)) false step.after.text step.after.stage (drop step.taken p.pending) input
    unfolding asks_fed Asked
    fed-knows (b ∷ text) e = rw e (omega arith)
    fed-knows [] e = go (eqb step.taken 0) refl (ltb (length p.pending) input) refl
      where
        go : (idle : Bool) → eqb step.taken 0 ≡ idle → (short : Bool) → ltb (length p.pending) input ≡ short →
            Asked (cond idle (cond short Read TooLong) Feed) false step.after.text step.after.stage (drop step.taken p.pending) input
        go true t true l =
            let untaken : step.taken ≡ 0 = eqb-true step.taken 0 t in
            rw untaken (e, nothing-rest untaken, ltb-true (length p.pending) input l)
        go true t false l = tt
        go false t short l = e

    fed-kept : Before lent p → p.ended ≡ false → p.text ≡ [] → Kept lent input (after_fed z p (stepped z p))
    unfolding after_fed Stand
    fed-kept b still empty =
        subst (λ (s : Stepped). Kept lent input (after_fed z p s)) (sym (is-step b))
        (record {
          stand = subst (λ (over : Bool). Stand over lent (after_fed z p step)) (sym still) (fed-before b empty);
          knows =
              subst
              (λ (over : Bool).
              Asked (asks_fed input step.after.text step.taken (length p.pending)) over step.after.text step.after.stage (drop step.taken p.pending) input)
              (sym still) (fed-knows step.after.text refl);
        })

    gave_kept : (piece : List ℕ) → Before lent p → p.ended ≡ false → p.text ≡ [] → Kept lent input (after_got p piece)
    unfolding Stand Asked
    gave_kept piece b still empty =
        record {
          stand =
              subst (λ (over : Bool). Stand over lent (after_got p piece)) (sym still)
              (record {
                pieces = b.pieces;
                taken = b.taken;
                gone = b.gone;
                all = sym (append_assoc b.taken p.pending piece) ∙ ap (λ (l : List ℕ). l ++ piece) b.all;
                fresh = b.fresh;
              });
          knows = subst (λ (over : Bool). Asked Feed over p.text p.stage (p.pending ++ piece) input) (sym still) empty;
        }

    ended-kept : Before lent p → p.text ≡ [] → is_rest p.stage p.pending ≡ true → Kept lent input (after_end z p)
    unfolding Stand Asked WholeText
    ended-kept b empty rest =
        let g = b.gone in
        let room = le-leb end_room output enough in
        record {
          stand =
              rw (room, is-sound b)
              (ap (λ (l : List ℕ). l ++ final_text true p.stage p.number p.memory.arena p.pending)
              (sym (append-nil p.written) ∙ ap (λ (l : List ℕ). p.written ++ l) (sym empty))
              ∙ ap (λ (x : Gone). x.text ++ final_text true x.stage x.number x.memory.arena p.pending) (sym g)
              ∙ whole-text lent b.pieces p.pending (ap (λ (x : Gone). is_rest x.stage p.pending) g ∙ rest)
              ∙ ap (λ (x : Gone). (replay_of lent (x.taken ++ p.pending)).text) g
              ∙ ap (λ (l : List ℕ). (replay_of lent l).text) b.all);
          knows = rw (room, is-sound b) (held-some p);
        }

  -- what was taken of the text is written, and the rest is still to be
  took-stand : (over : Bool) (p : Passage) (n : ℕ) → Stand over lent p → Stand over lent (after_took p n)
  unfolding Stand
  took-stand true p n s = append_assoc p.written (take n p.text) (drop n p.text) ∙ ap (λ (l : List ℕ). p.written ++ l) (take-append-drop n p.text) ∙ s
  took-stand false p n b =
      record {
        pieces = b.pieces;
        taken = b.taken;
        gone =
            b.gone
            ∙ ap (λ (l : List ℕ). gone_at b.taken l p.stage p.number p.memory)
            (sym (append_assoc p.written (take n p.text) (drop n p.text) ∙ ap (λ (l : List ℕ). p.written ++ l) (take-append-drop n p.text)));
        all = b.all;
        fresh = b.fresh;
      }

  took-knows : (over : Bool) (text : List ℕ) (stage : Stage) (pending : List ℕ) → Asked (asks_took text over) over text stage pending input
  unfolding asks_took Asked
  took-knows true [] stage pending = refl
  took-knows false [] stage pending = refl
  took-knows over (b ∷ text) stage pending = omega arith

  asked-stand : (over : Bool) (p : Passage) (next : Next) → Stand over lent p → Stand over lent (asked p next)
  unfolding Stand
  asked-stand true p next s = s
  asked-stand false p next b = record { pieces = b.pieces; taken = b.taken; gone = b.gone; all = b.all; fresh = b.fresh }

  module _ (p : Passage) (few : length p.read < last_number) (k : Kept lent input p) where
    on-feed : (over : Bool) → p.ended ≡ over → Stand over lent p → Asked Feed over p.text p.stage p.pending input → (e : Event) → Kept lent input (fed_on z p e)
    unfolding fed_on Stand Asked
    on-feed false o b empty feeds = fed-kept p few b o empty
    on-feed false o b empty e = k
    on-feed true o b empty e = absurd empty

    on_read : (over : Bool) → p.ended ≡ over → Stand over lent p → Asked Read over p.text p.stage p.pending input → (e : Event) → Kept lent input (read_on z p e)
    unfolding read_on Stand Asked
    on_read false o b a (gives piece) = gave_kept p few piece b o a.0
    on_read false o b a ends = ended-kept p few b a.0 a.1
    on_read false o b a read_fails = record { stand = asked-stand p.ended p ReadFailed k.stand; knows = rw o tt }
    on_read false o b a e = k
    on_read true o b a e = absurd a

    on-write : 0 < length p.text → (e : Event) → Kept lent input (written_on p e)
    unfolding written_on Asked
    on-write more (takes n) =
        record { stand = took-stand p.ended p n k.stand; knows = took-knows p.ended (drop n p.text) p.stage p.pending }
    on-write more write_fails = record { stand = asked-stand p.ended p WriteFailed k.stand; knows = more }
    on-write more e = k

    goes : (next : Next) → Asked next p.ended p.text p.stage p.pending input → (e : Event) → Kept lent input (goes_on next z p e)
    unfolding goes_on Asked
    goes Feed a e = on-feed p.ended refl k.stand a e
    goes Read a e = on_read p.ended refl k.stand a e
    goes Write a e = on-write a e
    goes next a e = k

    keeps : (e : Event) → Kept lent input (after_event z p e)
    unfolding after_event
    keeps e = goes p.asks k.knows e

-- what was read stays read
read-grows : (next : Next) (z : Sizes) (p : Passage) (e : Event) → length p.read ≤ length (goes_on next z p e).read
unfolding goes_on fed_on read_on written_on after_fed
read-grows Feed z p feeds = omega arith
read-grows Feed z p e = omega arith
read-grows Read z p (gives piece) = omega (arith, length-append p.read piece)
read-grows Read z p e = omega arith
read-grows Write z p (takes n) = omega arith
read-grows Write z p e = omega arith
read-grows next z p e = omega arith

all_read : (z : Sizes) (p : Passage) (events : List Event) → length p.read ≤ length (passed_on z p events).read
unfolding passed_on after_event
all_read z p [] = omega arith
all_read z p (e ∷ events) = omega (arith, read-grows p.asks z p e, all_read z (after_event z p e) events)

module _ (lent : List ℕ) (input output : ℕ) (long : most_region ≤ length lent) (enough : end_room ≤ output) where
  passes : (p : Passage) → Kept lent input p → (events : List Event) →
      length (passed_on (sizes (length lent) input output) p events).read < last_number → Kept lent input (passed_on (sizes (length lent) input output) p events)
  unfolding passed_on
  passes p k [] few = k
  passes p k (e ∷ events) few =
      passes (after_event (sizes (length lent) input output) p e)
      (keeps lent input output long enough p (omega (arith, few, all_read (sizes (length lent) input output) p (e ∷ events))) k e) events few

begins-kept : (lent : List ℕ) (input : ℕ) → Kept lent input (begun_with lent)
unfolding gone_on Stand Asked
begins-kept lent input =
    record { stand = record { pieces = []; taken = []; gone = refl; all = refl; fresh = λ e. (refl, refl) }; knows = refl }

standing : (lent : List ℕ) (p : Passage) → Before lent p → Standing lent p
standing lent p b =
    record {
      taken = b.taken;
      all = b.all;
      machine =
          ap (λ (x : Gone). fed lent (start lent) x.taken) (sym b.gone)
          ∙ gone-fed lent b.pieces
          ∙ ap (λ (x : Gone). machine_at x.stage x.number x.memory [] x.text) b.gone;
    }

begins : (lent : List ℕ) (p : Passage) → Standing lent p → (more : List ℕ) → Begins (p.written ++ p.text) (replay_of lent (p.read ++ more)).text
begins lent p s more =
    rw (sym (ap (λ (m : Machine). m.text) s.machine), sym s.all, append_assoc s.taken p.pending more) (text-begins lent s.taken (p.pending ++ more))

module _ (lent : List ℕ) (input : ℕ) (p : Passage) where
  is-before : (over : Bool) → over ≡ false → Stand over lent p → Before lent p
  unfolding Stand
  is-before false e s = s
  is-before true e s = cc

  is_whole : (over : Bool) → over ≡ true → Stand over lent p → p.written ++ p.text ≡ (replay_of lent p.read).text
  unfolding Stand
  is_whole true e s = s
  is_whole false e s = cc

  is_read : (over : Bool) → p.ended ≡ over → Asked Read over p.text p.stage p.pending input →
      (p.ended ≡ false) × (p.text ≡ []) × (is_rest p.stage p.pending ≡ true) × (length p.pending < input)
  unfolding Asked
  is_read false o a = (o, a.0, a.1, a.2)
  is_read true o a = absurd a

  is-done : (over : Bool) → p.ended ≡ over → Stand over lent p → Asked Done over p.text p.stage p.pending input →
      (p.ended ≡ true) × (p.written ≡ (replay_of lent p.read).text)
  unfolding Stand Asked
  is-done true o s a = (o, sym (append-nil p.written) ∙ ap (λ (l : List ℕ). p.written ++ l) (sym a) ∙ s)
  is-done false o s a = absurd a

  none_left : (next : Next) → length p.text ≡ 0 → Asked next true p.text p.stage p.pending input → next ≡ Done
  unfolding Asked
  none_left Done e a = refl
  none_left Write e a = absurd (omega (arith, a, e))
  none_left WriteFailed e a = absurd (omega (arith, a, e))
  none_left next e a = absurd a

  passing : Kept lent input p → Passing lent input p
  passing k =
      record {
        stands = λ still. standing lent p (is-before p.ended still k.stand);
        begins = λ still. begins lent p (standing lent p (is-before p.ended still k.stand));
        whole = λ over. is_whole p.ended over k.stand;
        reads = λ asks. is_read p.ended refl (subst (λ (n : Next). Asked n p.ended p.text p.stage p.pending input) asks k.knows);
        done =
            λ asks. is-done p.ended refl k.stand (subst (λ (n : Next). Asked n p.ended p.text p.stage p.pending input) asks k.knows);
        nothing_left =
            λ over full.
            none_left p.asks
            (omega (arith, length-append p.written p.text, ap length (is_whole p.ended over k.stand ∙ sym full)))
            (subst (λ (b : Bool). Asked p.asks b p.text p.stage p.pending input) over k.knows);
      }

pub every-passage : EveryPassage
unfolding EveryPassage
every-passage input output lent events long enough few =
    passing lent input (passed_on (sizes (length lent) input output) (begun_with lent) events)
    (passes lent input output long enough (begun_with lent) (begins-kept lent input) events few)
