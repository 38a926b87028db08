-- The machine is the definition: fed a whole file and ended, it gives the text and the memory of the file. Assumes nothing.
use Prim.Native.Nat.{ℕ}
use native.Mathlib.Nat.{le_refl}
use mathlib.Core.Bool.{Bool, true, false, cond}
use mathlib.Core.List.{List, []}
use Rattle.std.specs.Prelude.{Option, None, Some}
use mathlib.Core.Path.{◌≡◌, refl}
use lib.Dec.{ltb}
use lib.ListN.{length, drop}
use borrow.Author.Tests.{ltb-true}
use Rattle.requests.specs.Header.{Header, header_size, header_of, memory_for}
use Rattle.requests.specs.Parsed.{parsed_of}
use Rattle.requests.specs.Text.{bad_header_text}
use Rattle.requests.specs.Replay.{replayed_by, replay_of}
use Rattle.requests.specs.Machine.{heading, machine_at, start, headed, fed, ending_text, ended}
use Rattle.requests.proofs.Feeding.{RunsOut, runs-out, fed-stopped}
use Rattle.requests.proofs.Heading.{short-header, opened_by, opened}

after-header : (lent : List ℕ) (h : Option Header) (bytes : List ℕ) →
    ended (fed lent (headed lent h) bytes) ≡ replayed_by h (memory_for lent h) bytes
unfolding headed replayed_by parsed_of RunsOut ended ending_text
after-header lent None bytes = rw (fed-stopped lent 1 (memory_for lent None) [] bad_header_text bytes)
after-header lent (Some h) bytes = runs-out lent (length bytes) 1 (memory_for lent (Some h)) bytes [] (le_refl (length bytes))

pub fed-whole : (lent bytes : List ℕ) → ended (fed lent (start lent) bytes) ≡ replay_of lent bytes
unfolding opened_by replay_of
fed-whole lent bytes = rw (opened lent bytes) (go (ltb (length bytes) header_size) refl)
  where
    short : header_of bytes ≡ None → ended (machine_at heading 1 (memory_for lent None) bytes []) ≡ replayed_by (header_of bytes) (memory_for lent (header_of bytes)) (drop header_size bytes)
    short e = rw e (unfold ended ending_text replayed_by in refl)

    go : (t : Bool) → ltb (length bytes) header_size ≡ t →
        ended (cond t (machine_at heading 1 (memory_for lent None) bytes []) (fed lent (headed lent (header_of bytes)) (drop header_size bytes)))
        ≡ replayed_by (header_of bytes) (memory_for lent (header_of bytes)) (drop header_size bytes)
    go true t = short (short-header bytes (ltb-true (length bytes) header_size t))
    go false t = after-header lent (header_of bytes) (drop header_size bytes)
