-- A block that is given keeps the spaces apart: a fresh one is carved from the current chunk or from one that is pushed; a block that is carved again
-- is released first; one that stays keeps its space. Assumes nothing.
use Prim.Native.Nat.{ℕ, suc, ◌+◌, ◌≤◌}
use native.Mathlib.Omega.{arith}
use mathlib.Core.List.{List, ◌∷◌}
use Rattle.std.specs.Prelude.{Option, None, Some}
use mathlib.Core.Path.{◌≡◌, refl, sym, ap, subst}
use lib.ListN.{length}
use Rattle.arena.specs.declared.Head.{Head}
use Rattle.arena.specs.declared.Chunk.{Chunk}
use Rattle.arena.specs.Numbers.{most}
use Rattle.arena.specs.Record.{end_of}
use Rattle.arena.proofs.Soundness.{AllowedAlign}
use Rattle.calls.specs.declared.Token.{Token}
use Rattle.calls.specs.Allocate.{Taken}
use Rattle.calls.specs.Token.{token_for}
use Rattle.calls.proofs.Carving.{TakenFrom}
use Rattle.calls.proofs.Touching.{OnlyIn}
use Rattle.calls.proofs.Rewinding.{token-count}
use Rattle.calls.proofs.Serving.{Served, by-current, by-new}
use Rattle.calls.proofs.Moving.{Moved, afresh, recarved, staying}
use Rattle.sequence.specs.Ledger.{block}
use Rattle.sequence.specs.Demand.{Holds}
use Rattle.sequence.proofs.Spaces.{Space, space_of, TokenFits, no-token, same-chunk, new-chunk}
use Rattle.sequence.proofs.Moves.{Good, forget-second, push, stands_at_pointer, release, carve, reseat}

-- a block's token, where it has one, was issued by these chunks
pub data Issued (cs : List Chunk) : Option Token → Type 0 where
  unissued : Issued cs None
  issued : Issued cs (Some (token_for cs))

issued-here : {c : Chunk} {cs : List Chunk} {token : Option Token} → Issued (c ∷ cs) token → TokenFits (suc (length cs)) (end_of c) c.pointer token
unfolding token_for
issued-here unissued = no-token
issued-here issued = same-chunk refl refl

issued-before : (c : Chunk) {cs : List Chunk} {token : Option Token} → Issued cs token → c.pointer ≡ end_of c →
    TokenFits (suc (length cs)) (end_of c) c.pointer token
issued-before c unissued e = no-token
issued-before c {cs} issued e = new-chunk (ap suc (token-count cs)) e

module _ {h : Head} {bytes after : List ℕ} {spaces : List Space} (size align : ℕ) {put : List (Option ℕ)} {token : Option Token} {t : Taken}
    (small : size ≤ most) (allowed : AllowedAlign align)
    (only : OnlyIn bytes after t.offset (t.offset + size)) (holds : Holds after (block t.offset size align put token)) where
  -- carved from the first of these chunks
  given_by : {c : Chunk} {cs : List Chunk} → Good h (c ∷ cs) bytes spaces → TakenFrom h.minimum c cs size align t →
      TokenFits (suc (length cs)) (end_of c) c.pointer token →
      (top : ℕ) × Good h t.chunks after (space_of (block t.offset size align put token) top ∷ spaces)
  given_by {c} g taken token-fits = (
    c.pointer,
    subst (λ (ds : List Chunk). Good h ds after (space_of (block t.offset size align put token) c.pointer ∷ spaces)) (sym taken.chunks)
        (carve t.offset size align g taken.carved
        (record { size_bound = small; align_allowed = allowed; aligned = taken.carved.on-align }) token-fits only holds),
  )

  pub give : {cs : List Chunk} → Good h cs bytes spaces → Served h size align t cs → Issued cs token →
      (top : ℕ) × Good h t.chunks after (space_of (block t.offset size align put token) top ∷ spaces)
  give g (by-current taken) i = given_by g taken (issued-here i)
  give g (by-new c fresh taken) i = given_by (push fresh g) taken (issued-before c i fresh.at-end)

module _ {h : Head} {bytes after : List ℕ} {s : Space} {rest : List Space} (new new_align : ℕ) {put : List (Option ℕ)} {t : Taken}
    (small : new ≤ most) (allowed : AllowedAlign new_align)
    (only : OnlyIn bytes after t.offset (t.offset + new)) (holds : Holds after (block t.offset new new_align put None)) where
  pub replace : {cs : List Chunk} → Good h cs bytes (s ∷ rest) → Moved h s.live.offset s.live.size new new_align t cs →
      (top : ℕ) × Good h t.chunks after (space_of (block t.offset new new_align put None) top ∷ rest)
  replace g (afresh served) =
      let (top, both) = give new new_align small allowed only holds g served unissued in
      (top, forget-second both)
  replace g (recarved {c} {cs} e chunks r) =
      let place = stands_at_pointer g e in
      let freed = release s.top g e (omega (arith, place.fits.low, place.fits.room)) (omega arith) place.fits.top-on-minimum in (
        s.top,
        subst (λ (ds : List Chunk). Good h ds after (space_of (block t.offset new new_align put None) s.top ∷ rest)) (sym chunks)
            (carve t.offset new new_align freed
            (record { low = r.low; fits = omega (arith, r.within, place.fits.room); on-minimum = r.on-minimum; on-align = r.on-align })
            (record { size_bound = small; align_allowed = allowed; aligned = r.on-align }) no-token only holds),
      )
  replace {cs} g (staying e chunks less d) = (
    s.top,
    subst (λ (to : ℕ). Good h t.chunks after (space_of (block to new new_align put None) s.top ∷ rest)) (sym e)
        (subst (λ (ds : List Chunk). Good h ds after (space_of (block s.live.offset new new_align put None) s.top ∷ rest)) (sym chunks)
        (reseat new new_align g less (record { size_bound = small; align_allowed = allowed; aligned = d }) (λ k end f. no-token)
        (subst (λ (to : ℕ). OnlyIn bytes after to (to + new)) e only)
        (subst (λ (to : ℕ). Holds after (block to new new_align put None)) e holds))),
  )
