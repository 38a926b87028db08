-- The machine's text only grows, and the end adds to it; so it is the beginning of the text of every file that goes on from here. Assumes nothing.
use Prim.Native.Nat.{ℕ}
use mathlib.Core.Bool.{Bool, true, false, cond}
use mathlib.Core.List.{List, [], ◌∷◌, ◌++◌, append_assoc, append-nil}
use Rattle.std.specs.Prelude.{Option, None, Some}
use mathlib.Core.Path.{◌≡◌, refl, sym, ap, ◌∙◌}
use lib.Dec.{ltb}
use lib.ListN.{length}
use Rattle.requests.specs.Front.{Front, nothing, part, bad, whole, front_of}
use Rattle.requests.specs.Header.{Header, Memory, header_size, header_of, memory_for}
use Rattle.requests.specs.Parsed.{bad_record}
use Rattle.requests.specs.Run.{run}
use Rattle.requests.specs.Text.{line_of, ending_line, held_line}
use Rattle.requests.specs.Machine.{Stage, heading, running, stopped, Machine, machine_at, start, headed, header_fed, record_fed, fed_at, fed, ending_text, ended}
use Rattle.requests.specs.Replay.{Replayed, replay_of}
use Rattle.requests.proofs.Feeding.{fed-append}
use Rattle.requests.proofs.Whole.{fed-whole}
use Rattle.relay.specs.Passing.{Begins}

-- before the header is whole nothing is printed
record Grows (text : List ℕ) (s : Machine) : Type 0 where
  begins : Begins text s.text
  quiet : s.stage ≡ heading → s.text ≡ []

begins-all : (text : List ℕ) → Begins text text
begins-all text = record { rest = []; joined = append-nil text }

begins-none : (text : List ℕ) → Begins [] text
begins-none text = record { rest = text; joined = refl }

begins-more : {front middle : List ℕ} (more : List ℕ) → Begins front middle → Begins front (middle ++ more)
begins-more {front} more b = record { rest = b.rest ++ more; joined = sym (append_assoc front b.rest more) ∙ ap (λ (l : List ℕ). l ++ more) b.joined }

begins-then : {front middle whole : List ℕ} → Begins front middle → Begins middle whole → Begins front whole
begins-then {front} b c = rw (sym c.joined) (begins-more c.rest b)

header-grows : (lent pending : List ℕ) → Grows [] (header_fed lent pending)
unfolding header_fed headed
header-grows lent pending = go (ltb (length pending) header_size) (header_of pending)
  where
    go : (b : Bool) (o : Option Header) → Grows [] (cond b (machine_at heading 1 (memory_for lent None) pending []) (headed lent o))
    go true o = record { begins = begins-none []; quiet = λ e. refl }
    go false None = record { begins = begins-none (headed lent None).text; quiet = λ e. cc }
    go false (Some h) = record { begins = begins-none []; quiet = λ e. cc }

record-grows : (f : Front) (n : ℕ) (m : Memory) (pending text : List ℕ) → Grows text (record_fed f n m pending text)
unfolding record_fed
record-grows nothing n m pending text = record { begins = begins-all text; quiet = λ e. cc }
record-grows part n m pending text = record { begins = begins-all text; quiet = λ e. cc }
record-grows bad n m pending text = record { begins = begins-more (ending_line n bad_record) (begins-all text); quiet = λ e. cc }
record-grows (whole size r) n m pending text =
    record { begins = begins-more (line_of n (run r m).reply) (begins-all text); quiet = λ e. cc }

byte-grows : (lent : List ℕ) (stage : Stage) (s : Machine) (b : ℕ) → s.stage ≡ stage → (s.stage ≡ heading → s.text ≡ []) → Grows s.text (fed_at lent stage s b)
unfolding fed_at
byte-grows lent heading s b e q = rw (q e) (header-grows lent (s.pending ++ (b ∷ [])))
byte-grows lent running s b e q = record-grows (front_of (s.pending ++ (b ∷ []))) s.number s.memory (s.pending ++ (b ∷ [])) s.text
byte-grows lent stopped s b e q = record { begins = begins-all s.text; quiet = q }

grows : (lent : List ℕ) (s : Machine) (bytes : List ℕ) → (s.stage ≡ heading → s.text ≡ []) → Grows s.text (fed lent s bytes)
unfolding fed
grows lent s [] q = record { begins = begins-all s.text; quiet = q }
grows lent s (b ∷ bytes) q =
    let one = byte-grows lent s.stage s b refl q in
    let rest = grows lent (fed_at lent s.stage s b) bytes one.quiet in
    record { begins = begins-then one.begins rest.begins; quiet = rest.quiet }

-- what the machine has printed of these bytes begins the text of every file that begins with them
pub text-begins : (lent taken more : List ℕ) → Begins (fed lent (start lent) taken).text (replay_of lent (taken ++ more)).text
unfolding ended
text-begins lent taken more =
    let before = grows lent (start lent) taken (λ e. refl) in
    let s = fed lent (fed lent (start lent) taken) more in
    let later = grows lent (fed lent (start lent) taken) more before.quiet in
    let text : (s.text ++ ending_text s.stage s.number s.pending) ++ held_line s.memory.arena ≡ (replay_of lent (taken ++ more)).text =
    ap (λ (m : Machine). (ended m).text) (sym (fed-append lent (start lent) taken more)) ∙ ap (λ (x : Replayed). x.text) (fed-whole lent (taken ++ more)) in
    rw (sym text) (begins-more (held_line s.memory.arena) (begins-more (ending_text s.stage s.number s.pending) later.begins))
