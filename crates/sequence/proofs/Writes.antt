-- An owner's write keeps the invariant, also through a block that is lent: it stays in the owner's block, and the ledger notes what was put there.
-- Assumes nothing.
use Prim.Native.Nat.{ℕ, ◌+◌}
use native.Mathlib.Nat.{le_refl}
use native.Mathlib.Omega.{arith}
use mathlib.Core.Bool.{Bool, true, false, cond}
use mathlib.Core.List.{List, ◌∷◌}
use mathlib.Core.Path.{◌≡◌, refl}
use lib.Dec.{leb}
use lib.ListN.{length}
use borrow.Author.Tests.{leb-true}
use Rattle.arena.specs.Record.{held_of}
use Rattle.calls.specs.Bytes.{written}
use Rattle.calls.specs.Write.{lend_of}
use Rattle.calls.proofs.Touching.{only-written}
use Rattle.sequence.specs.Ledger.{block, noted}
use Rattle.sequence.specs.History.{State, state_of, write, lend, step, write_step, if_lent, lend_step}
use Rattle.sequence.proofs.Keeping.{holds-noted}
use Rattle.sequence.proofs.Spaces.{Space, space_of}
use Rattle.sequence.proofs.Moves.{Good, reseat}
use Rattle.sequence.proofs.Invariant.{Invariant, lives, block-keeps}
use Rattle.arena.specs.Refusals.{Answer}
use Rattle.std.specs.Prelude.{Err, Ok}

module _ (s : State) (inv : Invariant s) where
  written_keeps : (from : ℕ) (new : List ℕ) (u : Space) (rest : List Space) → Good s.arena.head (held_of s.arena) s.bytes (u ∷ rest) →
      Invariant (write_step from new s u.live (lives rest))
  unfolding write_step
  written_keeps from new u rest good = go (leb (from + length new) u.live.size) refl
    where
      after : State
      after =
          state_of s.arena (written s.bytes (u.live.offset + from) new)
          (block u.live.offset u.live.size u.live.align (noted u.live.put from new) u.live.token ∷ lives rest)

      go : (fits : Bool) → leb (from + length new) u.live.size ≡ fits → Invariant (cond fits after s)
      go false e = inv
      go true e =
          let fits = leb-true (from + length new) u.live.size e in
          let held = good.sits.0.holds in
          record {
            sound = inv.sound;
            spaces = space_of (block u.live.offset u.live.size u.live.align (noted u.live.put from new) u.live.token) u.top ∷ rest;
            same = refl;
            good =
                reseat u.live.size u.live.align good (le_refl u.live.size) good.sits.0.shape (λ k end f. f)
                (only-written s.bytes (u.live.offset + from) new (omega (arith, held.in_region)) (omega arith) (omega arith))
                (holds-noted u.live from new fits held);
          }

  pub write_keeps : (place from : ℕ) (new : List ℕ) → Invariant (step s (write place from new))
  unfolding step
  write_keeps place from new = block-keeps s inv place (write_step from new) (written_keeps from new)

  lent-keeps : (answer : Answer) (after : State) → Invariant after → Invariant (if_lent answer s after)
  unfolding if_lent
  lent-keeps (Ok u) after i = i
  lent-keeps (Err r) after i = inv

  pub lend-keeps : (place from : ℕ) (new : List ℕ) → Invariant (step s (lend place from new))
  unfolding step
  lend-keeps place from new =
      block-keeps s inv place (lend_step from new)
      (λ u rest good.
      lent-keeps (lend_of s.arena (length s.bytes) u.live.offset u.live.size u.live.align) (write_step from new s u.live (lives rest))
      (written_keeps from new u rest good))
