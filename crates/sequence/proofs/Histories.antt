-- The invariant holds of a new arena, and every call keeps it: so it holds after every list of calls. Assumes nothing.
use Prim.Native.Nat.{ℕ}
use mathlib.Core.List.{List, [], ◌∷◌}
use mathlib.Core.Path.{◌≡◌, refl, sym, subst}
use lib.ListN.{length}
use Rattle.arena.specs.Creation.{created_of}
use Rattle.arena.specs.declared.Arena.{Arena}
use Rattle.arena.proofs.StaysSound.{created-started}
use Rattle.sequence.specs.History.{State, state_of, Call, allocate, with_token, copy_in, fill, free, cancel}
use Rattle.sequence.specs.History.{grow, grow_zeroed, shrink, resize, write, lend, set_limit, no_limit, reset}
use Rattle.sequence.specs.History.{step, run, created}
use Rattle.sequence.proofs.Invariant.{Invariant, settled}
use Rattle.sequence.proofs.Requests.{allocate-keeps, token-keeps, copy-keeps, fill-keeps}
use Rattle.sequence.proofs.Changes.{grow-keeps, grow-zeroed-keeps, shrink-keeps, resize-keeps}
use Rattle.sequence.proofs.Endings.{free-keeps, cancel-keeps, reset-keeps, set-limit-keeps, no-limit-keeps}
use Rattle.sequence.proofs.Writes.{write_keeps, lend-keeps}
use Rattle.std.specs.Prelude.{Ok}

-- a new arena has no live block
pub created-keeps : (minimum capacity : ℕ) (bytes : List ℕ) → (created_of (length bytes) minimum capacity).answer ≡ (Ok tt) → Invariant (created minimum capacity bytes)
unfolding created
created-keeps minimum capacity bytes e =
    let started = created-started (length bytes) minimum capacity e in
    subst (λ (a : Arena). Invariant (state_of a bytes [])) (sym started.holds)
    (settled [] (record { standing = started.standing; region = refl; sits = tt; apart = tt }) refl)

pub step_keeps : (s : State) → Invariant s → (call : Call) → Invariant (step s call)
step_keeps s inv (allocate size align) = allocate-keeps s inv size align
step_keeps s inv (with_token size align) = token-keeps s inv size align
step_keeps s inv (copy_in source align) = copy-keeps s inv source align
step_keeps s inv (fill size align value) = fill-keeps s inv size align value
step_keeps s inv (free place) = free-keeps s inv place
step_keeps s inv (cancel place) = cancel-keeps s inv place
step_keeps s inv (grow place size align) = grow-keeps s inv place size align
step_keeps s inv (grow_zeroed place size align) = grow-zeroed-keeps s inv place size align
step_keeps s inv (shrink place size align) = shrink-keeps s inv place size align
step_keeps s inv (resize place size) = resize-keeps s inv place size
step_keeps s inv (write place from bytes) = write_keeps s inv place from bytes
step_keeps s inv (lend place from bytes) = lend-keeps s inv place from bytes
step_keeps s inv (set_limit limit) = set-limit-keeps s inv limit
step_keeps s inv no_limit = no-limit-keeps s inv
step_keeps s inv reset = reset-keeps s inv

pub run-keeps : (s : State) → Invariant s → (calls : List Call) → Invariant (run s calls)
unfolding run
run-keeps s inv [] = inv
run-keeps s inv (call ∷ calls) = run-keeps (step s call) (step_keeps s inv call) calls
