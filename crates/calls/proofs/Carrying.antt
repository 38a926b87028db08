-- What the Rust library's Allocator page promises of a grow and a shrink, for any record, block and bytes: the bytes that both sizes have stand at the new
-- place, and nothing outside the new block changes; `grow_zeroed` clears the rest. Assumes nothing.
use Prim.Native.Nat.{ℕ, ◌+◌, ◌-◌, ◌≤◌, ◌<◌, min}
use native.Mathlib.Nat.{le_refl, eq-zero-or-pos}
use native.Mathlib.Omega.{arith}
use mathlib.Core.List.{List, []}
use mathlib.Core.Logic.{⊎_elim}
use mathlib.Core.Path.{◌≡◌, refl, sym, subst, ◌∙◌}
use lib.ListN.{length, get_or, replicate, length-replicate}
use Rattle.arena.specs.declared.Arena.{Arena}
use Rattle.calls.specs.Bytes.{written, carried, after_given}
use Rattle.calls.specs.Allocate.{Taken, allocate_of}
use Rattle.calls.specs.Grow.{grow_of, grow_bytes, grow_zeroed_bytes}
use Rattle.calls.specs.Shrink.{shrink_of, shrink_bytes}
use Rattle.calls.specs.Resize.{resize_of, resize_bytes}
use Rattle.calls.specs.Write.{copy_in_bytes, fill_bytes}
use Rattle.calls.proofs.Writing.{written-elsewhere}
use Rattle.calls.proofs.Touching.{OnlyIn, only_then, only-written, only-carried, carried-reads, written-reads, cleared-reads}
use Rattle.calls.proofs.Passing.{grow-passes, shrink-passes}
use Rattle.calls.proofs.Results.{given-at, Replaced, allocate-result, grow-result, shrink-result, resize-result}
use Rattle.arena.specs.Refusals.{Given}
use Rattle.std.specs.Prelude.{Ok}

-- n bytes of the old block at the new place, and only bytes of the new block changed
pub record Carries (bytes after : List ℕ) (offset to n size : ℕ) : Type 0 where
  pub only : OnlyIn bytes after to (to + size)
  pub reads : (i : ℕ) → i < n → get_or after (to + i) 0 ≡ get_or bytes (offset + i) 0

-- nothing is carried from a block without bytes, wherever it is said to be
carried_none : (bytes : List ℕ) (offset to size : ℕ) → to + size ≤ length bytes → Carries bytes (carried bytes offset to 0) offset to 0 size
unfolding carried
carried_none bytes offset to size room =
    record { only = only-written bytes to [] (omega arith) (le_refl to) (omega arith); reads = λ i l. absurd (omega arith) }

carried-over : {a : Arena} {lent offset old new new_align : ℕ} {t : Taken} (bytes : List ℕ) (to n : ℕ) → lent ≡ length bytes →
    Replaced a lent offset old new new_align t →
    t.offset ≡ to → n ≤ old → n ≤ new → Carries bytes (carried bytes offset to n) offset to n new
carried-over {offset = offset} {new = new} bytes to n whole result there in-old in-new = ⊎_elim none-carried some-carried (eq-zero-or-pos n)
  where
    room : to + new ≤ length bytes
    room = omega (arith, result.inside)

    none-carried : n ≡ 0 → Carries bytes (carried bytes offset to n) offset to n new
    none-carried e = subst (λ (m : ℕ). Carries bytes (carried bytes offset to m) offset to m new) (sym e) (carried_none bytes offset to new room)

    some-carried : 0 < n → Carries bytes (carried bytes offset to n) offset to n new
    some-carried l =
        let source : offset + n ≤ length bytes = omega (arith, result.old-inside (omega arith)) in
        record {
          only = only-carried bytes offset to n source (omega arith) (le_refl to) (omega arith);
          reads = carried-reads bytes offset to n source (omega arith);
        }

module _ (a : Arena) (bytes : List ℕ) (offset old old_align new new_align to : ℕ) where
  grown : (grow_of a (length bytes) offset old old_align new new_align).answer ≡ Ok to →
      (old ≤ new) × Carries bytes (carried bytes offset to old) offset to old new × (to + new ≤ length bytes)
  unfolding grow_of
  grown e =
      let found = given-at a _ _ e in
      let up = (grow-passes a (length bytes) offset old old_align new new_align found.passed).direction in
      let result = grow-result a (length bytes) offset old old_align new new_align found.passed found.gives in
      (up, carried-over bytes to old refl result found.there (le_refl old) up, omega (arith, result.inside, found.there))

  pub grow-carries : (grow_of a (length bytes) offset old old_align new new_align).answer ≡ Ok to →
      Carries bytes (grow_bytes a bytes offset old old_align new new_align) offset to old new
  unfolding grow_bytes after_given
  grow-carries e =
      subst (λ (g : Given). Carries bytes (after_given g (λ at. carried bytes offset at old) bytes) offset to old new) (sym e) (grown e).1

  -- cleared from the old size to the new size
  pub record Zeroed (after : List ℕ) : Type 0 where
    pub kept : Carries bytes after offset to old new
    pub zeros : (i : ℕ) → old ≤ i → i < new → get_or after (to + i) 0 ≡ 0

  pub grow-zeroed-carries : (grow_of a (length bytes) offset old old_align new new_align).answer ≡ Ok to →
      Zeroed (grow_zeroed_bytes a bytes offset old old_align new new_align)
  unfolding grow_zeroed_bytes after_given
  grow-zeroed-carries e =
      let (up, first, room) = grown e in
      let over : List ℕ = carried bytes offset to old in
      let zeros : List ℕ = replicate (new - old) 0 in
      let count : length zeros ≡ new - old = length-replicate (new - old) 0 in
      let fits : to + old + length zeros ≤ length over = omega (arith, first.only.same_length) in
      subst (λ (g : Given). Zeroed (after_given g (λ at. written (carried bytes offset at old) (at + old) (replicate (new - old) 0)) bytes)) (sym e)
      (record {
        kept =
            record {
              only = only_then first.only (only-written over (to + old) zeros fits (omega arith) (omega arith));
              reads = λ i l. written-elsewhere over (to + old) zeros fits (to + i) (λ b h. omega arith) ∙ first.reads i l;
            };
        zeros = λ i l h. cleared-reads over (to + old) (new - old) (omega arith) (to + i) (omega arith) (omega arith);
      })

  pub shrink-carries : (shrink_of a (length bytes) offset old old_align new new_align).answer ≡ Ok to →
      Carries bytes (shrink_bytes a bytes offset old old_align new new_align) offset to new new
  unfolding shrink_of shrink_bytes after_given
  shrink-carries e =
      let found = given-at a _ _ e in
      let down = (shrink-passes a (length bytes) offset old old_align new new_align found.passed).direction in
      let result = shrink-result a (length bytes) offset old old_align new new_align found.passed found.gives in
      subst (λ (g : Given). Carries bytes (after_given g (λ at. carried bytes offset at new) bytes) offset to new new) (sym e)
      (carried-over bytes to new refl result found.there down (le_refl new))

pub resize-carries : (a : Arena) (bytes : List ℕ) (offset old align new to : ℕ) → (resize_of a (length bytes) offset old align new).answer ≡ Ok to →
    Carries bytes (resize_bytes a bytes offset old align new) offset to (min old new) new
unfolding resize_of resize_bytes after_given
resize-carries a bytes offset old align new to e =
    let found = given-at a _ _ e in
    let result = resize-result a (length bytes) offset old align new found.passed found.gives in
    subst (λ (g : Given). Carries bytes (after_given g (λ at. carried bytes offset at (min old new)) bytes) offset to (min old new) new) (sym e)
    (carried-over bytes to (min old new) refl result found.there (omega arith) (omega arith))

-- a block that is copied in stands in the region whole, and nothing else changes
pub record Copied (bytes after : List ℕ) (to : ℕ) (source : List ℕ) : Type 0 where
  pub inside : to + length source ≤ length bytes
  pub only : OnlyIn bytes after to (to + length source)
  pub reads : (i : ℕ) → i < length source → get_or after (to + i) 0 ≡ get_or source i 0

module _ (a : Arena) (bytes : List ℕ) (align to : ℕ) where
  allocated-inside : (size : ℕ) → (allocate_of a (length bytes) size align).answer ≡ Ok to → to + size ≤ length bytes
  unfolding allocate_of
  allocated-inside size e =
      let found = given-at a _ _ e in
      omega (arith, (allocate-result a (length bytes) size align found.passed found.gives).inside, found.there)

  written-copied : (source : List ℕ) → to + length source ≤ length bytes → Copied bytes (written bytes to source) to source
  written-copied source room =
      record {
        inside = room;
        only = only-written bytes to source room (le_refl to) (le_refl (to + length source));
        reads = written-reads bytes to source room;
      }

  pub copy-in-copies : (source : List ℕ) → (allocate_of a (length bytes) (length source) align).answer ≡ Ok to →
      Copied bytes (copy_in_bytes a bytes source align) to source
  unfolding copy_in_bytes after_given
  copy-in-copies source e =
      subst (λ (g : Given). Copied bytes (after_given g (λ at. written bytes at source) bytes) to source) (sym e)
      (written-copied source (allocated-inside (length source) e))

  pub fill-fills : (size value : ℕ) → (allocate_of a (length bytes) size align).answer ≡ Ok to →
      Copied bytes (fill_bytes a bytes size align value) to (replicate size value)
  unfolding fill_bytes after_given
  fill-fills size value e =
      subst (λ (g : Given). Copied bytes (after_given g (λ at. written bytes at (replicate size value)) bytes) to (replicate size value)) (sym e)
      (written-copied (replicate size value) (omega (arith, length-replicate size value, allocated-inside size e)))
