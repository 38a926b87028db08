-- Where blocks lie. An acceptable block lies in a held chunk, in the current one if it is at the current pointer; so does the block that a call gives.
-- Assumes nothing.
use Prim.Native.Nat.{ℕ, ◌+◌, ◌≤◌, ◌∣◌}
use native.Mathlib.Omega.{arith}
use mathlib.Core.Bool.{Bool, true, false, cond, ◌&&◌}
use mathlib.Core.List.{List, [], ◌∷◌}
use mathlib.Core.Logic.{◌⊎◌, inl, inr, ⊎_elim}
use mathlib.Core.Path.{◌≡◌, refl, sym, subst}
use lib.Dec.{leb, eqb}
use borrow.Author.Tests.{leb-true, eqb-true}
use Rattle.rounding.specs.Every.{Each, any}
use Rattle.rounding.specs.Round.{multiple}
use Rattle.rounding.proofs.Tests.{and_left, and_right, or_cases, true-false}
use Rattle.rounding.proofs.Rounding.{multiple-dvd}
use Rattle.arena.specs.declared.Head.{Head}
use Rattle.arena.specs.declared.Chunk.{Chunk}
use Rattle.arena.specs.Record.{end_of}
use Rattle.arena.proofs.Soundness.{ChunkSound, Clear}
use Rattle.arena.proofs.Standing.{Standing, standing-pushed, standing-repointed}
use Rattle.calls.specs.Tests.{has_block, acceptable}
use Rattle.calls.specs.Allocate.{Taken}
use Rattle.calls.proofs.Carving.{TakenFrom}
use Rattle.calls.proofs.Serving.{Served, by-current, by-new}
use Rattle.calls.proofs.Moving.{Moved, afresh, recarved, staying}

-- the block lies between the start and the end of one of the chunks
pub data Lies (offset size : ℕ) : List Chunk → Type 0 where
  in-current : {c : Chunk} {cs : List Chunk} → c.start ≤ offset → offset + size ≤ end_of c → Lies offset size (c ∷ cs)
  in-older : {c : Chunk} {cs : List Chunk} → Lies offset size cs → Lies offset size (c ∷ cs)

has-block-inside : {region minimum : ℕ} (c : Chunk) (offset size : ℕ) → ChunkSound region minimum c → has_block offset size c ≡ true →
    (c.start ≤ offset) × (offset + size ≤ end_of c)
unfolding has_block
has-block-inside c offset size s t = go (eqb size 0) refl t
  where
    go : (b : Bool) → eqb size 0 ≡ b →
        cond b (leb c.start offset && leb offset (end_of c)) (leb c.pointer offset && leb (offset + size) (end_of c)) ≡ true →
        (c.start ≤ offset) × (offset + size ≤ end_of c)
    go true e u = (
      leb-true c.start offset (and_left _ _ u),
      omega (arith, eqb-true size 0 e, leb-true offset (end_of c) (and_right (leb c.start offset) _ u)),
    )
    go false e u = (
      omega (arith, s.above-start, leb-true c.pointer offset (and_left _ _ u)),
      leb-true (offset + size) (end_of c) (and_right (leb c.pointer offset) _ u),
    )

any-lies : (region minimum offset size : ℕ) (cs : List Chunk) → Each (ChunkSound region minimum) cs → any (has_block offset size) cs ≡ true → Lies offset size cs
unfolding any
any-lies region minimum offset size [] s t = absurd (true-false t refl)
any-lies region minimum offset size (c ∷ cs) s t = go (any-lies region minimum offset size cs s.1) (or_cases (has_block offset size c) _ t)
  where
    go : (any (has_block offset size) cs ≡ true → Lies offset size cs) →
        (has_block offset size c ≡ true) ⊎ (any (has_block offset size) cs ≡ true) → Lies offset size (c ∷ cs)
    go rest (inl h) =
        let (low, high) = has-block-inside c offset size s.0 h in
        in-current low high
    go rest (inr h) = in-older (rest h)

-- an acceptable block
pub acceptable-aligned : (cs : List Chunk) (offset size align : ℕ) → acceptable cs offset size align ≡ true → align ∣ offset
unfolding acceptable
acceptable-aligned cs offset size align t = multiple-dvd align offset (and_left _ _ t)

pub acceptable-lies : {h : Head} (cs : List Chunk) (offset size align : ℕ) → Standing h cs → acceptable cs offset size align ≡ true → Lies offset size cs
unfolding acceptable
acceptable-lies {h} cs offset size align s t = any-lies h.region h.minimum offset size cs s.chunks (and_right (multiple align offset) _ t)

lies-in-region : (region minimum : ℕ) {offset size : ℕ} {cs : List Chunk} → Lies offset size cs → Each (ChunkSound region minimum) cs → offset + size ≤ region
lies-in-region region minimum (in-current low high) s = omega (arith, s.0.inside)
lies-in-region region minimum (in-older l) s = lies-in-region region minimum l s.1

pub lies-inside : {h : Head} {cs : List Chunk} {offset size : ℕ} → Standing h cs → Lies offset size cs → offset + size ≤ h.region
lies-inside {h} s l = lies-in-region h.region h.minimum l s.chunks

-- a block of chunks that are clear of c is at no offset of c
lies-outside : {offset size : ℕ} (c : Chunk) {cs : List Chunk} → Lies offset size cs → Each (Clear c) cs → c.start ≤ offset → offset ≤ end_of c → ⊥
lies-outside c (in-current low high) clear a b = ⊎_elim (λ g. omega arith) (λ g. omega arith) clear.0
lies-outside c (in-older l) clear a b = lies-outside c l clear.1 a b

pub lies-current : {h : Head} {c : Chunk} {cs : List Chunk} {offset size : ℕ} → Standing h (c ∷ cs) → Lies offset size (c ∷ cs) → offset ≡ c.pointer →
    offset + size ≤ end_of c
lies-current s (in-current low high) e = high
lies-current {c} s (in-older l) e =
    absurd (lies-outside c l s.apart.0 (omega (arith, s.chunks.0.above-start)) (omega (arith, s.chunks.0.below_end)))

-- a fresh block lies in the region, and the chunks that give it stand
pub served-inside : {h : Head} {cs : List Chunk} {size align : ℕ} {t : Taken} → Standing h cs → Served h size align t cs → t.offset + size ≤ h.region
served-inside s (by-current taken) = omega (arith, taken.carved.fits, s.chunks.0.below_end, s.chunks.0.inside)
served-inside s (by-new c fresh taken) = omega (arith, taken.carved.fits, fresh.at-end, fresh.inside)

taken-stands : {h : Head} {c : Chunk} {cs : List Chunk} {size align : ℕ} {t : Taken} → Standing h (c ∷ cs) → TakenFrom h.minimum c cs size align t →
    Standing h t.chunks
taken-stands {h} {t = t} s taken =
    subst (Standing h) (sym taken.chunks)
    (standing-repointed t.offset s taken.carved.low (omega (arith, taken.carved.fits, s.chunks.0.below_end)) taken.carved.on-minimum)

pub served-stands : {h : Head} {cs : List Chunk} {size align : ℕ} {t : Taken} → Standing h cs → Served h size align t cs → Standing h t.chunks
served-stands s (by-current taken) = taken-stands s taken
served-stands s (by-new c fresh taken) = taken-stands (standing-pushed s fresh) taken

taken-lies : {minimum size align : ℕ} {c : Chunk} {cs : List Chunk} {t : Taken} → TakenFrom minimum c cs size align t → c.pointer ≤ end_of c →
    Lies t.offset size t.chunks
taken-lies {size = size} {t = t} taken below =
    subst (Lies t.offset size) (sym taken.chunks) (in-current taken.carved.low (omega (arith, taken.carved.fits)))

-- and in a chunk that is held then
pub served-lies : {h : Head} {cs : List Chunk} {size align : ℕ} {t : Taken} → Standing h cs → Served h size align t cs → Lies t.offset size t.chunks
served-lies s (by-current taken) = taken-lies taken s.chunks.0.below_end
served-lies s (by-new c fresh taken) = taken-lies taken (omega (arith, fresh.at-end))

-- and so where the block of a live one is moved
pub moved_inside : {h : Head} {cs : List Chunk} {offset old new new_align : ℕ} {t : Taken} → Standing h cs → Lies offset old cs →
    Moved h offset old new new_align t cs → t.offset + new ≤ h.region
moved_inside s l (afresh served) = served-inside s served
moved_inside s l (recarved e chunks r) = omega (arith, r.within, lies-inside s l)
moved_inside s l (staying e chunks less d) = omega (arith, lies-inside s l)

pub moved-stands : {h : Head} {cs : List Chunk} {offset old new new_align : ℕ} {t : Taken} → Standing h cs → Lies offset old cs →
    Moved h offset old new new_align t cs → Standing h t.chunks
moved-stands s l (afresh served) = served-stands s served
moved-stands {h} {t = t} s l (recarved e chunks r) =
    subst (Standing h) (sym chunks) (standing-repointed t.offset s r.low (omega (arith, r.within, lies-current s l e)) r.on-minimum)
moved-stands {h} s l (staying e chunks less d) = subst (Standing h) (sym chunks) s

-- a part of a block lies where the block does
lies-shorter : {offset old new : ℕ} {cs : List Chunk} → new ≤ old → Lies offset old cs → Lies offset new cs
lies-shorter less (in-current {c} low high) = in-current {c = c} low (omega arith)
lies-shorter less (in-older l) = in-older (lies-shorter less l)

pub moved-lies : {h : Head} {cs : List Chunk} {offset old new new_align : ℕ} {t : Taken} → Standing h cs → Lies offset old cs →
    Moved h offset old new new_align t cs → Lies t.offset new t.chunks
moved-lies s l (afresh served) = served-lies s served
moved-lies {new = new} {t = t} s l (recarved e chunks r) =
    subst (Lies t.offset new) (sym chunks) (in-current r.low (omega (arith, r.within, lies-current s l e)))
moved-lies {new = new} s l (staying e chunks less d) = rw (e, chunks) (lies-shorter less l)
