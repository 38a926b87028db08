-- The four moves that every call is made of, each keeping the spaces apart: a chunk is pushed; the block at the pointer is released, and the
-- pointer goes up to the top of its space or less far; a block is carved from below the pointer; a block is forgotten. Assumes nothing.
use Prim.Native.Nat.{ℕ, suc, ◌+◌, ◌≤◌, ◌<◌, ◌∣◌}
use native.Mathlib.Nat.{le_refl}
use native.Mathlib.Omega.{arith}
use mathlib.Core.List.{List, ◌∷◌}
use Rattle.std.specs.Prelude.{Option}
use mathlib.Core.Path.{◌≡◌, ◌∙◌}
use lib.ListN.{length}
use Rattle.rounding.specs.Every.{Each}
use Rattle.arena.specs.declared.Head.{Head}
use Rattle.arena.specs.declared.Chunk.{Chunk}
use Rattle.arena.specs.Numbers.{most}
use Rattle.arena.specs.Record.{end_of, with_pointer}
use Rattle.rounding.proofs.Every.{every_map}
use Rattle.arena.proofs.Soundness.{AllowedAlign}
use Rattle.arena.proofs.Standing.{Standing, Fresh, standing-pushed, standing-repointed}
use Rattle.calls.specs.declared.Token.{Token}
use Rattle.calls.proofs.Carving.{Carved}
use Rattle.calls.proofs.Touching.{OnlyIn}
use Rattle.sequence.specs.Ledger.{block}
use Rattle.sequence.specs.Demand.{EachTwo, Holds}
use Rattle.sequence.proofs.Lists.{every-both, every-left, every-right}
use Rattle.sequence.proofs.Keeping.{holds-elsewhere}
use Rattle.sequence.proofs.Spaces.{Space, space_of, Disjoint, TokenFits, In, Placed, current}
use Rattle.sequence.proofs.Spaces.{older, outside, in-current, placed-room, placed-repointed, placed-resized}

-- a live block's size and alignment are allowed ones, and it is aligned
pub record Shape (size align offset : ℕ) : Type 0 where
  pub size_bound : size ≤ most
  pub align_allowed : AllowedAlign align
  pub aligned : align ∣ offset

-- all that is kept of one space
pub record Sits (minimum : ℕ) (cs : List Chunk) (bytes : List ℕ) (s : Space) : Type 0 where
  pub shape : Shape s.live.size s.live.align s.live.offset
  pub placed : Placed minimum s.live.offset s.live.size s.top s.live.token cs
  pub holds : Holds bytes s.live

-- and of all of them together
pub record Good (h : Head) (cs : List Chunk) (bytes : List ℕ) (spaces : List Space) : Type 0 where
  pub standing : Standing h cs
  pub region : length bytes ≡ h.region
  pub sits : Each (Sits h.minimum cs bytes) spaces
  pub apart : EachTwo Disjoint spaces

-- forget: a block is dropped, and nothing moves
pub forget : {h : Head} {cs : List Chunk} {bytes : List ℕ} {s : Space} {rest : List Space} → Good h cs bytes (s ∷ rest) → Good h cs bytes rest
forget g = record { standing = g.standing; region = g.region; sits = g.sits.1; apart = g.apart.1 }

-- the same of the block behind the first
pub forget-second : {h : Head} {cs : List Chunk} {bytes : List ℕ} {n s : Space} {rest : List Space} → Good h cs bytes (n ∷ (s ∷ rest)) →
    Good h cs bytes (n ∷ rest)
forget-second g =
    record {
      standing = g.standing;
      region = g.region;
      sits = (g.sits.0, g.sits.1.1);
      apart = (g.apart.0.1, g.apart.1.1);
    }

-- push: a fresh chunk becomes current, and no block lies in it yet
pub push : {h : Head} {cs : List Chunk} {bytes : List ℕ} {spaces : List Space} {c : Chunk} → Fresh h cs c → Good h cs bytes spaces →
    Good h (c ∷ cs) bytes spaces
push {h} {cs} {bytes} {spaces} {c} f g =
    record {
      standing = standing-pushed g.standing f;
      region = g.region;
      sits = every_map (λ s x. record { shape = x.shape; placed = older x.placed; holds = x.holds }) spaces g.sits;
      apart = g.apart;
    }

module _ {h : Head} {c : Chunk} {cs : List Chunk} {bytes : List ℕ} where
  -- a block at the current pointer lies in the current chunk
  pub stands_at_pointer : {s : Space} {rest : List Space} → Good h (c ∷ cs) bytes (s ∷ rest) → s.live.offset ≡ c.pointer →
      In h.minimum (suc (length cs)) c.start (end_of c) c.pointer s.live.offset s.live.size s.top s.live.token
  stands_at_pointer g e =
      let chunk = g.standing.chunks.0 in
      in-current g.sits.0.placed g.standing.apart.0 (omega (arith, chunk.above-start)) (omega (arith, chunk.below_end))
      (omega (arith, placed-room g.sits.0.placed))

  -- release: the block at the pointer goes, and the pointer goes up, at most to the top of its space, below which no other space begins
  pub release : {s : Space} {rest : List Space} (p : ℕ) → Good h (c ∷ cs) bytes (s ∷ rest) → s.live.offset ≡ c.pointer →
      c.start ≤ p → p ≤ s.top → h.minimum ∣ p → Good h (with_pointer c p ∷ cs) bytes rest
  release {s} {rest} p g e low high d =
      let place = stands_at_pointer g e in
      record {
        standing = standing-repointed p g.standing low (omega (arith, place.fits.high)) d;
        region = g.region;
        sits = every_map stays rest (every-both _ _ rest g.apart.0 g.sits.1);
        apart = g.apart.1;
      }
    where
      stays : (u : Space) → Disjoint s u × Sits h.minimum (c ∷ cs) bytes u → Sits h.minimum (with_pointer c p ∷ cs) bytes u
      stays u (apart, x) =
          record {
            shape = x.shape;
            placed =
                placed-repointed p
                (λ l above.
                let not-inside : ¬ (u.live.offset < s.top) = λ m. apart u.live.offset (omega arith) m (le_refl u.live.offset) l in
                omega arith)
                x.placed;
            holds = x.holds;
          }

  -- carve: a block takes the bytes from its offset up to the pointer for its space, and the pointer goes down to it
  pub carve : {spaces : List Space} {after : List ℕ} (offset size align : ℕ) {put : List (Option ℕ)} {token : Option Token} →
      Good h (c ∷ cs) bytes spaces → Carved h.minimum c.start c.pointer size align offset →
      Shape size align offset → TokenFits (suc (length cs)) (end_of c) c.pointer token →
      OnlyIn bytes after offset (offset + size) → Holds after (block offset size align put token) →
      Good h (with_pointer c offset ∷ cs) after (space_of (block offset size align put token) c.pointer ∷ spaces)
  carve {spaces} {after} offset size align {put} {token} g carved shape issued only holds =
      let chunk = g.standing.chunks.0 in
      let both = every_map beside spaces g.sits in
      record {
        standing = standing-repointed offset g.standing carved.low (omega (arith, carved.fits, chunk.below_end)) carved.on-minimum;
        region = only.same_length ∙ g.region;
        sits = (
          record {
            shape = shape;
            placed =
                current
                (record {
                  fits =
                      record {
                        low = carved.low;
                        room = carved.fits;
                        high = chunk.below_end;
                        on-minimum = carved.on-minimum;
                        top-on-minimum = chunk.pointer-multiple;
                        above = λ l. le_refl offset;
                      };
                  token-fits = issued;
                });
            holds = holds;
          },
          every-right (Disjoint new) (Sits h.minimum (with_pointer c offset ∷ cs) after) spaces both,
        );
        apart = (every-left (Disjoint new) (Sits h.minimum (with_pointer c offset ∷ cs) after) spaces both, g.apart);
      }
    where
      new : Space
      new = space_of (block offset size align put token) c.pointer

      shares-none : (u : Space) → Placed h.minimum u.live.offset u.live.size u.top u.live.token (c ∷ cs) →
          (x : ℕ) → offset ≤ x → x < c.pointer → u.live.offset ≤ x → x < u.top → ⊥
      shares-none u (current p) x a b l m = omega (arith, p.fits.above (omega arith))
      shares-none u (older p) x a b l m =
          outside c p g.standing.apart.0 x (omega (arith, carved.low)) (omega (arith, g.standing.chunks.0.below_end)) l (omega arith)

      beside : (u : Space) → Sits h.minimum (c ∷ cs) bytes u → Disjoint new u × Sits h.minimum (with_pointer c offset ∷ cs) after u
      beside u x = (
        shares-none u x.placed,
        record {
          shape = x.shape;
          placed = placed-repointed offset (λ l above. omega (arith, carved.fits)) x.placed;
          holds =
              holds-elsewhere u.live only
              (λ y a b l m. shares-none u x.placed y l (omega (arith, carved.fits)) a (omega (arith, placed-room x.placed)))
              x.holds;
        },
      )

-- beside the four: a block stays in its space, with another size, alignment or bytes
pub reseat : {h : Head} {cs : List Chunk} {bytes after : List ℕ} {s : Space} {rest : List Space} (size align : ℕ) {put : List (Option ℕ)} {token : Option Token} →
    Good h cs bytes (s ∷ rest) → size ≤ s.live.size → Shape size align s.live.offset →
    ((k end : ℕ) → TokenFits k end s.top s.live.token → TokenFits k end s.top token) →
    OnlyIn bytes after s.live.offset (s.live.offset + size) → Holds after (block s.live.offset size align put token) →
    Good h cs after (space_of (block s.live.offset size align put token) s.top ∷ rest)
reseat {h} {cs} {bytes} {after} {s} {rest} size align g less shape keep only holds =
    record {
      standing = g.standing;
      region = only.same_length ∙ g.region;
      sits = (
        record { shape = shape; placed = placed-resized (omega (arith, wide)) keep g.sits.0.placed; holds = holds },
        every_map stays rest (every-both _ _ rest g.apart.0 g.sits.1),
      );
      apart = g.apart;
    }
  where
    wide : s.live.offset + s.live.size ≤ s.top
    wide = placed-room g.sits.0.placed

    stays : (u : Space) → Disjoint s u × Sits h.minimum cs bytes u → Sits h.minimum cs after u
    stays u (apart, x) =
        record {
          shape = x.shape;
          placed = x.placed;
          holds =
              holds-elsewhere u.live only
              (λ y a b l m. apart y l (omega (arith, wide)) a (omega (arith, placed-room x.placed)))
              x.holds;
        }
