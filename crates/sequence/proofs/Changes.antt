-- Grow, grow zeroed, shrink and resize keep the invariant: the block is replaced by one that holds its first bytes, and nothing outside the new block is
-- written. Assumes nothing.
use Prim.Native.Nat.{ℕ, ◌+◌, ◌≤◌, ◌<◌}
use native.Mathlib.Omega.{arith}
use mathlib.Core.List.{List, ◌∷◌}
use Rattle.std.specs.Prelude.{Option, None, Some}
use Rattle.std.proofs.lemmas.Option.{none-some, same_Some}
use mathlib.Core.Path.{◌≡◌, refl, ◌∙◌}
use lib.ListN.{length, get_or}
use Rattle.arena.specs.declared.Arena.{Arena}
use Rattle.arena.specs.Record.{held_of, holding}
use Rattle.calls.specs.Allocate.{Taken}
use Rattle.calls.specs.Grow.{grow_of, grow_bytes, grow_zeroed_bytes}
use Rattle.calls.specs.Shrink.{shrink_of, shrink_bytes}
use Rattle.calls.specs.Resize.{resize_of, resize_bytes}
use Rattle.calls.proofs.Results.{Replaced, grow-result, shrink-result, resize-result}
use Rattle.calls.proofs.Carrying.{Carries, grow-carries, grow-zeroed-carries, shrink-carries, resize-carries}
use Rattle.sequence.specs.Ledger.{block, kept}
use Rattle.sequence.specs.History.{State, state_of, grow, grow_zeroed, shrink, resize, grow_step, grow_zeroed_step, shrink_step, resize_step, step}
use Rattle.sequence.proofs.Keeping.{holds-moved}
use Rattle.sequence.proofs.Giving.{replace}
use Rattle.sequence.proofs.Spaces.{Space, space_of}
use Rattle.sequence.proofs.Moves.{Good}
use Rattle.sequence.proofs.Invariant.{Invariant, lives, settled, giving-keeps, unchanged, block-keeps}

-- the block is replaced, with all the bytes that both sizes have, and fresh ones past the old size
changed : {a : Arena} {bytes after : List ℕ} {u : Space} {rest : List Space} {n new new_align : ℕ} {t : Taken} (fresh : Option ℕ) →
    Good a.head (held_of a) bytes (u ∷ rest) → Replaced a (length bytes) u.live.offset u.live.size new new_align t →
    Carries bytes after u.live.offset t.offset n new → ((i : ℕ) → i < u.live.size → i < new → i < n) →
    ((i v : ℕ) → u.live.size ≤ i → i < new → fresh ≡ Some v → get_or after (t.offset + i) 0 ≡ v) →
    Invariant (state_of (holding a.head t.chunks) after (block t.offset new new_align (kept u.live new fresh) None ∷ lives rest))
changed {u = u} {rest} {new = new} {new_align} {t} fresh good result carries both past =
    let request = result.request in
    let holds = holds-moved u.live good.sits.0.holds new_align fresh carries result.inside both past in
    let (top, after) = replace new new_align request.size_bound request.align_allowed carries.only holds good result.moved in
    settled (space_of (block t.offset new new_align (kept u.live new fresh) None) top ∷ rest) after refl

module _ (s : State) (inv : Invariant s) (u : Space) (rest : List Space) (good : Good s.arena.head (held_of s.arena) s.bytes (u ∷ rest)) where
  grown : (new new_align : ℕ) → Invariant (grow_step new new_align s u.live (lives rest))
  unfolding grow_of grow_bytes
  grown new new_align =
      giving-keeps s inv (lives rest) _ _ _ _ (λ x. unchanged _ _)
      (λ t r o e.
      changed None good
      (grow-result s.arena (length s.bytes) u.live.offset u.live.size u.live.align new new_align r o)
      (grow-carries s.arena s.bytes u.live.offset u.live.size u.live.align new new_align t.offset e)
      (λ i l h. l) (λ i v l h z. absurd (none-some v z)))

  grown-zeroed : (new new_align : ℕ) → Invariant (grow_zeroed_step new new_align s u.live (lives rest))
  unfolding grow_of grow_zeroed_bytes
  grown-zeroed new new_align =
      giving-keeps s inv (lives rest) _ _ _ _ (λ x. unchanged _ _)
      (λ t r o e.
      let zeroed = grow-zeroed-carries s.arena s.bytes u.live.offset u.live.size u.live.align new new_align t.offset e in
      changed (Some 0) good
      (grow-result s.arena (length s.bytes) u.live.offset u.live.size u.live.align new new_align r o)
      zeroed.kept (λ i l h. l) (λ i v l h z. zeroed.zeros i l h ∙ same_Some 0 v z))

  shrunk : (new new_align : ℕ) → Invariant (shrink_step new new_align s u.live (lives rest))
  unfolding shrink_of shrink_bytes
  shrunk new new_align =
      giving-keeps s inv (lives rest) _ _ _ _ (λ x. unchanged _ _)
      (λ t r o e.
      changed None good
      (shrink-result s.arena (length s.bytes) u.live.offset u.live.size u.live.align new new_align r o)
      (shrink-carries s.arena s.bytes u.live.offset u.live.size u.live.align new new_align t.offset e)
      (λ i l h. h) (λ i v l h z. absurd (none-some v z)))

  resized : (new : ℕ) → Invariant (resize_step new s u.live (lives rest))
  unfolding resize_of resize_bytes
  resized new =
      giving-keeps s inv (lives rest) _ _ _ _ (λ x. unchanged _ _)
      (λ t r o e.
      changed None good
      (resize-result s.arena (length s.bytes) u.live.offset u.live.size u.live.align new r o)
      (resize-carries s.arena s.bytes u.live.offset u.live.size u.live.align new t.offset e)
      (λ i l h. omega arith) (λ i v l h z. absurd (none-some v z)))

module _ (s : State) (inv : Invariant s) (place new : ℕ) where
  pub grow-keeps : (new_align : ℕ) → Invariant (step s (grow place new new_align))
  unfolding step
  grow-keeps new_align = block-keeps s inv place (grow_step new new_align) (λ u rest good. grown s inv u rest good new new_align)

  pub grow-zeroed-keeps : (new_align : ℕ) → Invariant (step s (grow_zeroed place new new_align))
  unfolding step
  grow-zeroed-keeps new_align = block-keeps s inv place (grow_zeroed_step new new_align) (λ u rest good. grown-zeroed s inv u rest good new new_align)

  pub shrink-keeps : (new_align : ℕ) → Invariant (step s (shrink place new new_align))
  unfolding step
  shrink-keeps new_align = block-keeps s inv place (shrink_step new new_align) (λ u rest good. shrunk s inv u rest good new new_align)

  pub resize-keeps : Invariant (step s (resize place new))
  unfolding step
  resize-keeps = block-keeps s inv place (resize_step new) (λ u rest good. resized s inv u rest good new)
