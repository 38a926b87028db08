-- A live block's space reaches from its offset to the pointer that it was carved from. Spaces share no byte, and a space that is not empty lies at
-- or above its chunk's pointer: that is what keeps the bytes of live blocks apart. Assumes nothing.
use Prim.Native.Nat.{ℕ, suc, ◌+◌, ◌≤◌, ◌<◌, ◌∣◌}
use native.Mathlib.Omega.{arith}
use mathlib.Core.List.{List, ◌∷◌}
use mathlib.Core.Logic.{⊎_elim}
use Rattle.std.specs.Prelude.{Option, None, Some}
use mathlib.Core.Path.{◌≡◌}
use lib.ListN.{length}
use Rattle.rounding.specs.Every.{Each}
use Rattle.arena.specs.declared.Chunk.{Chunk}
use Rattle.arena.specs.Record.{end_of, with_pointer}
use Rattle.arena.proofs.Soundness.{Clear}
use Rattle.calls.specs.declared.Token.{Token}
use Rattle.sequence.specs.Ledger.{Live}

-- a live block, and the top of its space
pub record Space : Type 0 where
  pub live : Live
  pub top : ℕ

abbrev pub space_of : Live → ℕ → Space
space_of live top = record { live = live; top = top }

-- no byte is in both spaces
abbrev pub Disjoint : Space → Space → Type 0
Disjoint s u = (x : ℕ) → s.live.offset ≤ x → x < s.top → u.live.offset ≤ x → x < u.top → ⊥

pub disjoint-turn : (s u : Space) → Disjoint s u → Disjoint u s
disjoint-turn s u d x a b c e = d x c e a b

-- the space lies in a chunk, and if it is not empty, at or above the pointer
pub record Fits (minimum start end pointer offset size top : ℕ) : Type 0 where
  pub low : start ≤ offset
  pub room : offset + size ≤ top
  pub high : top ≤ end
  pub on-minimum : minimum ∣ offset
  pub top-on-minimum : minimum ∣ top
  pub above : offset < top → pointer ≤ offset

-- the token of a block in the chunk that was taken as number k: it says k and the top; or one chunk less, and then the top is the chunk's end
pub data TokenFits (k end top : ℕ) : Option Token → Type 0 where
  no-token : TokenFits k end top None
  same-chunk : {t : Token} → t.count ≡ k → t.pointer ≡ top → TokenFits k end top (Some t)
  new-chunk : {t : Token} → suc t.count ≡ k → top ≡ end → TokenFits k end top (Some t)

pub record In (minimum k start end pointer offset size top : ℕ) (token : Option Token) : Type 0 where
  pub fits : Fits minimum start end pointer offset size top
  pub token-fits : TokenFits k end top token

-- the space lies in one of the chunks
pub data Placed (minimum offset size top : ℕ) (token : Option Token) : List Chunk → Type 0 where
  current : {c : Chunk} {cs : List Chunk} →
      In minimum (suc (length cs)) c.start (end_of c) c.pointer offset size top token → Placed minimum offset size top token (c ∷ cs)
  older : {c : Chunk} {cs : List Chunk} → Placed minimum offset size top token cs → Placed minimum offset size top token (c ∷ cs)

module _ {minimum offset size top : ℕ} {token : Option Token} where
  -- a space in chunks that are clear of c meets no offset of c
  pub outside : (c : Chunk) {cs : List Chunk} → Placed minimum offset size top token cs → Each (Clear c) cs →
      (x : ℕ) → c.start ≤ x → x ≤ end_of c → offset ≤ x → x ≤ top → ⊥
  outside c (current p) clear x a b l h =
      ⊎_elim (λ g. omega (arith, p.fits.low, p.fits.high)) (λ g. omega (arith, p.fits.low, p.fits.high)) clear.0
  outside c (older p) clear x a b l h = outside c p clear.1 x a b l h

  -- so a space at an offset of the current chunk lies in the current chunk
  pub in-current : {c : Chunk} {cs : List Chunk} → Placed minimum offset size top token (c ∷ cs) → Each (Clear c) cs →
      c.start ≤ offset → offset ≤ end_of c → offset ≤ top →
      In minimum (suc (length cs)) c.start (end_of c) c.pointer offset size top token
  in-current (current p) clear a b l = p
  in-current {c} (older p) clear a b l = absurd (outside c p clear offset a b (omega arith) l)

  -- a space is as wide as its block, at least
  pub placed-room : {cs : List Chunk} → Placed minimum offset size top token cs → offset + size ≤ top
  placed-room (current p) = p.fits.room
  placed-room (older p) = placed-room p

  -- the current pointer goes elsewhere
  pub placed-repointed : {c : Chunk} {cs : List Chunk} (p : ℕ) → (offset < top → c.pointer ≤ offset → p ≤ offset) →
      Placed minimum offset size top token (c ∷ cs) → Placed minimum offset size top token (with_pointer c p ∷ cs)
  placed-repointed p above (current i) =
      current
      (record {
        fits =
            record {
              low = i.fits.low;
              room = i.fits.room;
              high = i.fits.high;
              on-minimum = i.fits.on-minimum;
              top-on-minimum = i.fits.top-on-minimum;
              above = λ l. above l (i.fits.above l);
            };
        token-fits = i.token-fits;
      })
  placed-repointed p above (older i) = older i

  -- the block in the space gets another size that fits, and its token ends or stays
  pub placed-resized : {cs : List Chunk} {new : ℕ} {new-token : Option Token} → offset + new ≤ top →
      ((k end : ℕ) → TokenFits k end top token → TokenFits k end top new-token) →
      Placed minimum offset size top token cs → Placed minimum offset new top new-token cs
  placed-resized l keep (current {c} {cs} p) =
      current
      (record {
        fits =
            record {
              low = p.fits.low;
              room = l;
              high = p.fits.high;
              on-minimum = p.fits.on-minimum;
              top-on-minimum = p.fits.top-on-minimum;
              above = p.fits.above;
            };
        token-fits = keep (suc (length cs)) (end_of c) p.token-fits;
      })
  placed-resized l keep (older p) = older (placed-resized l keep p)
