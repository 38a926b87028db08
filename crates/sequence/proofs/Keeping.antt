-- A block's bytes stay what its owner put there while only bytes of other blocks change; and they are what its owner put there when it is new,
-- written or moved. Assumes nothing.
use Prim.Native.Nat.{ℕ, ◌+◌, ◌-◌, ◌≤◌, ◌<◌}
use native.Mathlib.Omega.{arith}
use mathlib.Core.List.{List}
use mathlib.Core.Logic.{⊎_elim}
use Rattle.std.specs.Prelude.{Option, None, Some}
use mathlib.Core.Path.{◌≡◌, ap, ◌∙◌}
use lib.ListN.{length, get_or, length-replicate, length-map}
use Rattle.calls.specs.declared.Token.{Token}
use Rattle.calls.specs.Bytes.{written}
use Rattle.calls.proofs.Writing.{length-written, written-within, written-elsewhere}
use Rattle.calls.proofs.Touching.{OnlyIn}
use Rattle.calls.proofs.Carrying.{Carries, Copied}
use Rattle.sequence.specs.Ledger.{Live, block, unknown, known, kept, noted}
use Rattle.sequence.specs.Demand.{Holds}
use Rattle.sequence.proofs.Known.{known-inside, unknown-nothing, known_at, noted-length, noted-cases, kept-length, kept-cases}

-- a block that shares no byte with what changes keeps what it holds
pub holds-elsewhere : {bytes after : List ℕ} {low high : ℕ} (b : Live) → OnlyIn bytes after low high →
    ((x : ℕ) → b.offset ≤ x → x < b.offset + b.size → low ≤ x → x < high → ⊥) → Holds bytes b → Holds after b
holds-elsewhere b only apart h =
    record {
      each_byte = h.each_byte;
      in_region = omega (arith, h.in_region, only.same_length);
      stands = λ i v e.
          let inside = known-inside b.put i v e in
          only.elsewhere (b.offset + i) (λ l g. apart (b.offset + i) (omega arith) (omega (arith, h.each_byte)) l g) ∙ h.stands i v e;
    }

-- a new block, of which nothing is known
pub holds-unknown : (bytes : List ℕ) (offset size align : ℕ) (token : Option Token) → offset + size ≤ length bytes →
    Holds bytes (block offset size align (unknown size) token)
holds-unknown bytes offset size align token l =
    record { each_byte = length-replicate size None; in_region = l; stands = λ i v e. absurd (unknown-nothing size i v e) }

-- a new block that is written whole
pub holds-known : {bytes after : List ℕ} (offset align : ℕ) (new : List ℕ) (token : Option Token) → Copied bytes after offset new →
    Holds after (block offset (length new) align (known new) token)
holds-known offset align new token c =
    record {
      each_byte = length-map new Some;
      in_region = omega (arith, c.inside, c.only.same_length);
      stands = λ i v e. c.reads i (omega (arith, known-inside (known new) i v e, length-map new (λ (x : ℕ). Some x))) ∙ known_at new i v e;
    }

-- a block that its owner writes in
pub holds-noted : {bytes : List ℕ} (b : Live) (from : ℕ) (new : List ℕ) → from + length new ≤ b.size → Holds bytes b →
    Holds (written bytes (b.offset + from) new) (block b.offset b.size b.align (noted b.put from new) b.token)
holds-noted {bytes} b from new l h =
    record {
      each_byte = noted-length b.put from new fits ∙ h.each_byte;
      in_region = omega (arith, length-written bytes (b.offset + from) new room, h.in_region);
      stands = λ i v e. ⊎_elim (here i v) (before i v) (noted-cases b.put from new fits i v e);
    }
  where
    fits : from + length new ≤ length b.put
    fits = omega (arith, h.each_byte)

    room : b.offset + from + length new ≤ length bytes
    room = omega (arith, h.in_region)

    here : (i v : ℕ) → (from ≤ i) × (i < from + length new) × (get_or new (i - from) 0 ≡ v) →
        get_or (written bytes (b.offset + from) new) (b.offset + i) 0 ≡ v
    here i v (low, high, is) =
        let place : b.offset + i - (b.offset + from) ≡ i - from = omega arith in
        written-within bytes (b.offset + from) new room (b.offset + i) (omega arith) (omega arith) ∙ ap (λ (k : ℕ). get_or new k 0) place ∙ is

    before : (i v : ℕ) → (from ≤ i → i < from + length new → ⊥) × (get_or b.put i None ≡ Some v) →
        get_or (written bytes (b.offset + from) new) (b.offset + i) 0 ≡ v
    before i v (out, is) =
        written-elsewhere bytes (b.offset + from) new room (b.offset + i) (λ a g. out (omega arith) (omega arith)) ∙ h.stands i v is

-- a block that moves with its first bytes, and whose bytes past the old size are fresh
pub holds-moved : {bytes after : List ℕ} {n to new : ℕ} (b : Live) → Holds bytes b → (align : ℕ) (fresh : Option ℕ) → Carries bytes after b.offset to n new →
    to + new ≤ length bytes → ((i : ℕ) → i < b.size → i < new → i < n) →
    ((i v : ℕ) → b.size ≤ i → i < new → fresh ≡ Some v → get_or after (to + i) 0 ≡ v) →
    Holds after (block to new align (kept b new fresh) None)
holds-moved {after} {to} {new} b h align fresh moved room both past =
    record {
      each_byte = kept-length b h.each_byte new fresh;
      in_region = omega (arith, room, moved.only.same_length);
      stands = λ i v e. ⊎_elim (before i v) (beyond i v) (kept-cases b h.each_byte new fresh i v e);
    }
  where
    before : (i v : ℕ) → (i < b.size) × (i < new) × (get_or b.put i None ≡ Some v) → get_or after (to + i) 0 ≡ v
    before i v (old, small, is) = moved.reads i (both i old small) ∙ h.stands i v is

    beyond : (i v : ℕ) → (b.size ≤ i) × (i < new) × (fresh ≡ Some v) → get_or after (to + i) 0 ≡ v
    beyond i v (old, small, is) = past i v old small is
