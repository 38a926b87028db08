-- Where grow, shrink and resize put a block. There are three ways: a fresh block; for a block at the current pointer, one carved again from the
-- bytes up to its own end; or the block stays. Assumes nothing.
use Prim.Native.Nat.{ℕ, ◌+◌, ◌-◌, ◌/◌, ◌≤◌, ◌<◌, ◌∣◌, max}
use native.Mathlib.Nat.{dvd_trans, dvd-add}
use native.Mathlib.Omega.{arith}
use mathlib.Core.Bool.{Bool, true, false, cond, ◌&&◌}
use mathlib.Core.List.{List, [], ◌∷◌}
use Rattle.std.specs.Prelude.{Option, None, Some}
use Rattle.std.proofs.lemmas.Option.{none-some}
use mathlib.Core.Path.{◌≡◌, refl, ap, subst, ◌∙◌}
use lib.Dec.{leb, ltb, eqb}
use borrow.Author.Tests.{leb-true, ltb-false, eqb-true, eqb-false}
use Rattle.rounding.specs.Round.{multiple, round_up}
use Rattle.rounding.proofs.Rounding.{multiple-dvd, down-at-most, down-multiple, up-at-least}
use Rattle.rounding.proofs.Powers.{Power, power-positive, power_divides, of-max-left, of-max-right}
use Rattle.arena.specs.declared.Head.{Head}
use Rattle.arena.specs.declared.Chunk.{Chunk}
use Rattle.arena.specs.Record.{with_pointer}
use Rattle.arena.proofs.Standing.{Standing}
use Rattle.calls.specs.Allocate.{Taken, at_pointer, current_gives, allocate_in}
use Rattle.calls.specs.Grow.{grown_in_place, or_afresh, grow_in}
use Rattle.calls.specs.Shrink.{stays, given_up, moved_up, shrunk_in_place, shrink_in}
use Rattle.calls.specs.Resize.{resize_in}
use Rattle.calls.proofs.Carving.{current-carves}
use Rattle.calls.proofs.Serving.{Served, allocate-serves}

-- the block of a chunk's pointer, carved again: it ends at or below the old block's end
pub record Recarved (minimum start offset old new new_align to : ℕ) : Type 0 where
  pub low : start ≤ to
  pub within : to + new ≤ offset + old
  pub on-minimum : minimum ∣ to
  pub on-align : new_align ∣ to

-- where a block of a new size and alignment stands, and the chunks then
pub data Moved (h : Head) (offset old new new_align : ℕ) (t : Taken) : List Chunk → Type 0 where
  afresh : {cs : List Chunk} → Served h new new_align t cs → Moved h offset old new new_align t cs
  recarved : {c : Chunk} {cs : List Chunk} → offset ≡ c.pointer → t.chunks ≡ with_pointer c t.offset ∷ cs →
      Recarved h.minimum c.start offset old new new_align t.offset → Moved h offset old new new_align t (c ∷ cs)
  staying : {cs : List Chunk} → t.offset ≡ offset → t.chunks ≡ cs → new ≤ old → new_align ∣ offset → Moved h offset old new new_align t cs

-- what a power divides, a smaller one does
pub finer : {p q x : ℕ} → Power p → Power q → p ≤ q → q ∣ x → p ∣ x
finer {p} pp pq l d = dvd_trans p (power_divides pp pq l) d

module _ {h : Head} {offset old_align new_align : ℕ} (old new : ℕ) (old-power : Power old_align) (new-power : Power new_align) (aligned : old_align ∣ offset) where
  grown-in-place : (cs : List Chunk) → Standing h cs → {t : Taken} → grown_in_place h.minimum cs offset old old_align new new_align ≡ Some t →
      Moved h offset old new new_align t cs
  unfolding grown_in_place at_pointer current_gives
  grown-in-place cs s {t} e = go (leb new_align old_align) refl cs s e
    where
      stands_at_pointer : new_align ≤ old_align → (c : Chunk) (rest : List Chunk) → Standing h (c ∷ rest) → (u : Bool) → eqb offset c.pointer ≡ u →
          cond u (current_gives h.minimum (c ∷ rest) (round_up new h.minimum - old) old_align) None ≡ Some t → Moved h offset old new new_align t (c ∷ rest)
      stands_at_pointer l c rest s false q r = absurd (none-some t r)
      stands_at_pointer l c rest s true q r =
          let here = eqb-true offset c.pointer q in
          let more = round_up new h.minimum - old in
          let found = current-carves h.minimum c rest more old_align s.settings.minimum-power old-power s.chunks.0.pointer-multiple r in
          recarved here found.chunks
          (record {
            low = found.carved.low;
            within = omega (arith, found.carved.fits, up-at-least new h.minimum (power-positive s.settings.minimum-power));
            on-minimum = found.carved.on-minimum;
            on-align = finer new-power old-power l found.carved.on-align;
          })

      go : (b : Bool) → leb new_align old_align ≡ b → (ds : List Chunk) → Standing h ds →
          cond (b && at_pointer ds offset) (current_gives h.minimum ds (round_up new h.minimum - old) old_align) None ≡ Some t →
          Moved h offset old new new_align t ds
      go false p ds s r = absurd (none-some t r)
      go true p [] s r = absurd (none-some t r)
      go true p (c ∷ rest) s r = stands_at_pointer (leb-true new_align old_align p) c rest s (eqb offset c.pointer) refl r

  pub grow-moves : (cs : List Chunk) → Standing h cs → {t : Taken} → grow_in h cs offset old old_align new new_align ≡ Some t →
      Moved h offset old new new_align t cs
  unfolding grow_in or_afresh
  grow-moves cs s {t} e = go (grown_in_place h.minimum cs offset old old_align new new_align) refl e
    where
      go : (place : Option Taken) → grown_in_place h.minimum cs offset old old_align new new_align ≡ place → or_afresh h cs new new_align place ≡ Some t →
          Moved h offset old new new_align t cs
      go None p r = afresh (allocate-serves new-power cs s r)
      go (Some u) p r = grown-in-place cs s (p ∙ r)

  shrunk-in-place : new_align ≤ old_align → new ≤ old → (cs : List Chunk) → Standing h cs → {t : Taken} →
      shrunk_in_place cs offset old (given_up h.minimum old new new_align) ≡ Some t → Moved h offset old new new_align t cs
  unfolding shrunk_in_place at_pointer moved_up
  shrunk-in-place l less cs s {t} e = go cs s e
    where
      d : ℕ
      d = given_up h.minimum old new new_align

      stay : (ds : List Chunk) → stays ds offset ≡ Some t → Moved h offset old new new_align t ds
      stay ds r = staying (ap (λ (u : Taken). u.offset) same) (ap (λ (u : Taken). u.chunks) same) less (finer new-power old-power l aligned)
        where
          same : t ≡ record { offset = offset; chunks = ds }
          same = cc

      up : (c : Chunk) (rest : List Chunk) → Standing h (c ∷ rest) → offset ≡ c.pointer →
          moved_up (c ∷ rest) offset d ≡ Some t → Moved h offset old new new_align t (c ∷ rest)
      up c rest s here r =
          let same : record { offset = offset + d; chunks = with_pointer c (offset + d) ∷ rest } ≡ t = cc in
          let whole = down-multiple (old - new) (max new_align h.minimum) in
          let small = down-at-most (old - new) (max new_align h.minimum) in
          subst (λ (u : Taken). Moved h offset old new new_align u (c ∷ rest)) same
          (recarved here refl
          (record {
            low = omega (arith, s.chunks.0.above-start);
            within = omega arith;
            on-minimum = dvd-add h.minimum (rw here s.chunks.0.pointer-multiple) (of-max-right new-power s.settings.minimum-power whole);
            on-align = dvd-add new_align (finer new-power old-power l aligned) (of-max-left new-power s.settings.minimum-power whole);
          }))

      stands_at_pointer : (c : Chunk) (rest : List Chunk) → Standing h (c ∷ rest) → (u v : Bool) → eqb offset c.pointer ≡ u →
          cond (u && v) (moved_up (c ∷ rest) offset d) (stays (c ∷ rest) offset) ≡ Some t → Moved h offset old new new_align t (c ∷ rest)
      stands_at_pointer c rest s false v q r = stay (c ∷ rest) r
      stands_at_pointer c rest s true false q r = stay (c ∷ rest) r
      stands_at_pointer c rest s true true q r = up c rest s (eqb-true offset c.pointer q) r

      go : (ds : List Chunk) → Standing h ds → shrunk_in_place ds offset old d ≡ Some t → Moved h offset old new new_align t ds
      go [] s r = stay [] r
      go (c ∷ rest) s r = stands_at_pointer c rest s (eqb offset c.pointer) (leb ((old + 1) / 2) d) refl r

  pub shrink-moves : new ≤ old → (cs : List Chunk) → Standing h cs → {t : Taken} → shrink_in h cs offset old old_align new new_align ≡ Some t →
      Moved h offset old new new_align t cs
  unfolding shrink_in
  shrink-moves less cs s {t} e = go (ltb old_align new_align) refl (multiple new_align offset) refl e
    where
      go : (b : Bool) → ltb old_align new_align ≡ b → (m : Bool) → multiple new_align offset ≡ m →
          cond b (cond m (stays cs offset) (allocate_in h cs new new_align)) (shrunk_in_place cs offset old (given_up h.minimum old new new_align)) ≡ Some t →
          Moved h offset old new new_align t cs
      go true p true q r =
          let same : t ≡ record { offset = offset; chunks = cs } = cc in
          staying (ap (λ (u : Taken). u.offset) same) (ap (λ (u : Taken). u.chunks) same) less (multiple-dvd new_align offset q)
      go true p false q r = afresh (allocate-serves new-power cs s r)
      go false p m q r = shrunk-in-place (ltb-false old_align new_align p) less cs s r

pub resize-moves : {h : Head} {offset align : ℕ} (old new : ℕ) → Power align → (0 < old → align ∣ offset) → (cs : List Chunk) → Standing h cs → {t : Taken} →
    resize_in h cs offset old align new ≡ Some t → Moved h offset old new align t cs
unfolding resize_in
resize-moves {h} {offset} {align} old new power aligned cs s {t} e = go (eqb old 0) refl (leb new old) refl e
  where
    some_bytes : eqb old 0 ≡ false → 0 < old
    some_bytes p =
        let not_none : ¬ (old ≡ 0) = eqb-false old 0 p in
        omega arith

    go : (b : Bool) → eqb old 0 ≡ b → (m : Bool) → leb new old ≡ m →
        cond b (allocate_in h cs new align) (cond m (shrink_in h cs offset old align new align) (grow_in h cs offset old align new align)) ≡ Some t →
        Moved h offset old new align t cs
    go true p m q r = afresh (allocate-serves power cs s r)
    go false p true q r = shrink-moves old new power power (aligned (some_bytes p)) (leb-true new old q) cs s r
    go false p false q r = grow-moves old new power power (aligned (some_bytes p)) cs s r
