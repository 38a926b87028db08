-- Free, cancel, reset and the limit calls keep the invariant. A block at the pointer is released, as far as its end or to its top; one elsewhere is
-- forgotten. Assumes nothing.
use Prim.Native.Nat.{ℕ, suc, ◌+◌}
use native.Mathlib.Nat.{le_refl}
use native.Mathlib.Omega.{arith}
use mathlib.Core.Bool.{Bool, true, false, cond}
use mathlib.Core.List.{List, [], ◌∷◌}
use Rattle.std.specs.Prelude.{Option, None, Some}
use mathlib.Core.Path.{◌≡◌, refl, sym, subst}
use lib.Dec.{eqb}
use lib.ListN.{length}
use borrow.Author.Tests.{eqb-true, eq-eqb, ne_eqb}
use Rattle.rounding.specs.Round.{round_up}
use Rattle.rounding.proofs.Rounding.{up-at-least, up_least, up_multiple}
use Rattle.rounding.proofs.Powers.{power-positive}
use Rattle.arena.specs.declared.Head.{Head}
use Rattle.arena.specs.declared.Chunk.{Chunk}
use Rattle.arena.specs.Record.{end_of, with_pointer, held_of}
use Rattle.arena.specs.Sound.{limit_formed}
use Rattle.arena.specs.Creation.{limited_to, set_limit_of, no_limit_of, kept_by_reset, reset_of}
use Rattle.arena.proofs.Standing.{sound-standing}
use Rattle.arena.proofs.StaysSound.{limited-sound, reset-standing}
use Rattle.calls.specs.declared.Token.{Token}
use Rattle.calls.specs.Free.{freed, free_of}
use Rattle.calls.specs.Token.{rewound, cancel_of}
use Rattle.sequence.specs.History.{State, state_of, free, cancel, reset, set_limit, no_limit, free_step, cancel_with, cancel_step, step}
use Rattle.sequence.proofs.Spaces.{Space, TokenFits, same-chunk, new-chunk}
use Rattle.sequence.proofs.Moves.{Good, forget, stands_at_pointer, release}
use Rattle.sequence.proofs.Invariant.{Invariant, lives, settled, leaving-keeps, block-keeps}

freed-good : {h : Head} (cs : List Chunk) {bytes : List ℕ} {u : Space} {rest : List Space} → Good h cs bytes (u ∷ rest) →
    Good h (freed h.minimum cs u.live.offset u.live.size) bytes rest
unfolding freed
freed-good [] g = forget g
freed-good {h} (c ∷ cs) {bytes} {u} {rest} g = go (eqb u.live.offset c.pointer) refl
  where
    go : (b : Bool) → eqb u.live.offset c.pointer ≡ b →
        Good h (cond b (with_pointer c (round_up (u.live.offset + u.live.size) h.minimum) ∷ cs) (c ∷ cs)) bytes rest
    go false e = forget g
    go true e =
        let here = eqb-true u.live.offset c.pointer e in
        let place = stands_at_pointer g here in
        let above = up-at-least (u.live.offset + u.live.size) h.minimum (power-positive g.standing.settings.minimum-power) in
        release (round_up (u.live.offset + u.live.size) h.minimum) g here
        (omega (arith, place.fits.low))
        (up_least (u.live.offset + u.live.size) h.minimum place.fits.top-on-minimum place.fits.room)
        (up_multiple (u.live.offset + u.live.size) h.minimum)

-- where the pointer goes is the top of the block's space
returns : {k end top : ℕ} {token : Token} → TokenFits k end top (Some token) → cond (eqb token.count k) token.pointer end ≡ top
returns {k} {token} (same-chunk p q) = rw (eq-eqb token.count k p) q
returns {k} {token} (new-chunk p q) = rw (ne_eqb token.count k (λ e. omega arith)) (sym q)

rewound-good : {h : Head} (cs : List Chunk) {bytes : List ℕ} {u : Space} {rest : List Space} (token : Token) → u.live.token ≡ Some token →
    Good h cs bytes (u ∷ rest) →
    Good h (rewound cs u.live.offset token) bytes rest
unfolding rewound
rewound-good [] token t g = forget g
rewound-good {h} (c ∷ cs) {bytes} {u} {rest} token t g = go (eqb u.live.offset c.pointer) refl
  where
    back : ℕ
    back = cond (eqb token.count (suc (length cs))) token.pointer (end_of c)

    go : (b : Bool) → eqb u.live.offset c.pointer ≡ b → Good h (cond b (with_pointer c back ∷ cs) (c ∷ cs)) bytes rest
    go false e = forget g
    go true e =
        let here = eqb-true u.live.offset c.pointer e in
        let place = stands_at_pointer g here in
        let fits = subst (TokenFits (suc (length cs)) (end_of c) u.top) t place.token-fits in
        subst (λ (p : ℕ). Good h (with_pointer c p ∷ cs) bytes rest) (sym (returns fits))
        (release u.top g here (omega (arith, place.fits.low, place.fits.room)) (le_refl u.top) place.fits.top-on-minimum)

-- all blocks end
reset-good : {h : Head} (cs : List Chunk) {bytes : List ℕ} {spaces : List Space} → Good h cs bytes spaces → Good h (kept_by_reset cs) bytes []
reset-good cs g = record { standing = reset-standing cs g.standing; region = g.region; sits = tt; apart = tt }

module _ (s : State) (inv : Invariant s) where
  pub free-keeps : (place : ℕ) → Invariant (step s (free place))
  unfolding step free_of
  free-keeps place =
      block-keeps s inv place free_step
      (λ u rest good. leaving-keeps s inv (lives rest) _ _ (λ r. settled rest (freed-good (held_of s.arena) good) refl))

  cancelled : (u : Space) (rest : List Space) → Good s.arena.head (held_of s.arena) s.bytes (u ∷ rest) →
      (token : Option Token) → u.live.token ≡ token → Invariant (cancel_with token s u.live (lives rest))
  unfolding cancel_with cancel_of
  cancelled u rest good None e = inv
  cancelled u rest good (Some token) e =
      leaving-keeps s inv (lives rest) _ _ (λ r. settled rest (rewound-good (held_of s.arena) token e good) refl)

  pub cancel-keeps : (place : ℕ) → Invariant (step s (cancel place))
  unfolding step
  cancel-keeps place = block-keeps s inv place cancel_step (λ u rest good. cancelled u rest good u.live.token refl)

  pub reset-keeps : Invariant (step s reset)
  unfolding step reset_of
  reset-keeps = leaving-keeps s inv [] _ _ (λ r. settled [] (reset-good (held_of s.arena) inv.good) refl)

  -- a limit of either form
  limited-keeps : (limited limit : ℕ) → limit_formed (limited_to s.arena limited limit).head ≡ true →
      Invariant (state_of (limited_to s.arena limited limit) s.bytes s.ledger)
  limited-keeps limited limit formed =
      let sound = limited-sound s.arena limited limit formed inv.sound in
      record {
        sound = sound;
        spaces = inv.spaces;
        same = inv.same;
        good = record { standing = sound-standing sound; region = inv.good.region; sits = inv.good.sits; apart = inv.good.apart };
      }

  pub set-limit-keeps : (limit : ℕ) → Invariant (step s (set_limit limit))
  unfolding step set_limit_of limit_formed
  set-limit-keeps limit = leaving-keeps s inv s.ledger _ _ (λ r. limited-keeps 1 limit refl)

  pub no-limit-keeps : Invariant (step s no_limit)
  unfolding step no_limit_of limit_formed
  no-limit-keeps = leaving-keeps s inv s.ledger _ _ (λ r. limited-keeps 0 0 refl)
