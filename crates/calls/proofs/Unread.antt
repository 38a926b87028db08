-- The 48 bytes after a chunk's end are never read: what a call carries stood in the block that it names, no byte of which is reserved, and the rest of what
-- it answers goes by the region's length. Assumes nothing.
use Prim.Native.Nat.{ℕ, ◌+◌, ◌-◌, ◌≤◌, ◌<◌, min}
use native.Mathlib.Nat.{eq-zero-or-pos, min-le_left, min-le_right}
use native.Mathlib.Decide.{dec_le, dec_lt}
use native.Mathlib.Omega.{arith}
use mathlib.Core.Bool.{true}
use mathlib.Core.List.{List}
use mathlib.Core.Logic.{⊎_elim}
use mathlib.Core.Path.{◌≡◌, refl, sym, subst, ◌∙◌}
use lib.ListN.{length, get_or, replicate, length-replicate}
use lib.Seq.{ext_get_or}
use Rattle.arena.specs.declared.Arena.{Arena}
use Rattle.arena.specs.declared.Chunk.{Chunk}
use Rattle.arena.specs.Record.{held_of}
use Rattle.arena.proofs.Standing.{sound-standing}
use Rattle.calls.specs.Bytes.{written, part, carried, after_given}
use Rattle.calls.specs.Tests.{acceptable}
use Rattle.calls.specs.Allocate.{allocate_of}
use Rattle.calls.specs.Grow.{grow_of, grow_bytes, grow_zeroed_bytes}
use Rattle.calls.specs.Shrink.{shrink_of, shrink_bytes}
use Rattle.calls.specs.Resize.{resize_of, resize_bytes}
use Rattle.calls.specs.Write.{copy_in_bytes, fill_bytes}
use Rattle.calls.specs.Reserved.{Reserved, Alike, NeverRead}
use Rattle.calls.proofs.Blocks.{acceptable-lies}
use Rattle.calls.proofs.Writing.{length_part, get_d_part, length-written, written-within, written-elsewhere, carried-nothing, length-carried}
use Rattle.calls.proofs.Carrying.{copy-in-copies, fill-fills}
use Rattle.calls.proofs.Passing.{Request, grow-passes, shrink-passes, resize-passes, resize-accepted}
use Rattle.calls.proofs.Changing.{grow-served, shrink-served}
use Rattle.calls.proofs.Resizing.{resize-served}
use Rattle.calls.proofs.Results.{given-at}
use Rattle.calls.proofs.Reserved.{lies-unreserved}
use Rattle.arena.specs.Refusals.{Given}
use Rattle.std.specs.Prelude.{Err, Ok}

module _ {cs : List Chunk} (bytes others : List ℕ) (alike : Alike cs bytes others) where
  -- the same bytes written over both
  written-alike : (at : ℕ) (new : List ℕ) → at + length new ≤ length bytes → Alike cs (written bytes at new) (written others at new)
  written-alike at new room =
      record {
        same_length = length-written bytes at new room ∙ alike.same_length ∙ sym (length-written others at new fits);
        same = λ x out. go x out (dec_le at x) (dec_lt x (at + length new));
      }
    where
      fits : at + length new ≤ length others
      fits = omega (arith, alike.same_length)

      untouched : (x : ℕ) → (Reserved x cs → ⊥) → (at ≤ x → x < at + length new → ⊥) → get_or (written bytes at new) x 0 ≡ get_or (written others at new) x 0
      untouched x out apart = written-elsewhere bytes at new room x apart ∙ alike.same x out ∙ sym (written-elsewhere others at new fits x apart)

      go : (x : ℕ) → (Reserved x cs → ⊥) → Dec (at ≤ x) → Dec (x < at + length new) → get_or (written bytes at new) x 0 ≡ get_or (written others at new) x 0
      go x out (yes low) (yes high) = written-within bytes at new room x low high ∙ sym (written-within others at new fits x low high)
      go x out (yes low) (no past) = untouched x out (λ l h. past h)
      go x out (no before) high = untouched x out (λ l h. before l)

  -- bytes that are not reserved, carried in both
  carried-alike : (from to n : ℕ) → from + n ≤ length bytes → to + n ≤ length bytes → ((i : ℕ) → i < n → Reserved (from + i) cs → ⊥) →
      Alike cs (carried bytes from to n) (carried others from to n)
  unfolding carried
  carried-alike from to n source room free =
      let long = length_part bytes from n source in
      let others-long = length_part others from n (omega (arith, alike.same_length)) in
      let same-part =
      ext_get_or 0 (part bytes from n) (part others from n) (long ∙ sym others-long)
      (λ i h.
      let l : i < n = omega arith in
      get_d_part bytes from n i l ∙ alike.same (from + i) (free i l) ∙ sym (get_d_part others from n i l)) in
      subst (λ (l : List ℕ). Alike cs (written bytes to (part bytes from n)) (written others to l)) same-part
      (written-alike to (part bytes from n) (omega arith))

-- a call answers by the region's length, which is the same of both
never-read : (cs : List Chunk) (answer : ℕ → Given) (make : List ℕ → ℕ → List ℕ) →
    ((bytes others : List ℕ) → Alike cs bytes others → (to : ℕ) → answer (length bytes) ≡ Ok to → Alike cs (make bytes to) (make others to)) →
    (bytes others : List ℕ) → Alike cs bytes others →
    Alike cs (after_given (answer (length bytes)) (make bytes) bytes) (after_given (answer (length others)) (make others) others)
unfolding after_given
never-read cs answer make served bytes others alike =
    subst (λ (n : ℕ). Alike cs (after_given (answer (length bytes)) (make bytes) bytes) (after_given (answer n) (make others) others)) alike.same_length
    (go (answer (length bytes)) refl)
  where
    go : (g : Given) → answer (length bytes) ≡ g → Alike cs (after_given g (make bytes) bytes) (after_given g (make others) others)
    go (Ok to) e = served bytes others alike to e
    go (Err r) e = alike

module _ (a : Arena) where
  -- no byte of a block that is accepted is reserved
  block-free : {lent size align : ℕ} (offset old old_align : ℕ) → Request a lent size align → acceptable (held_of a) offset old old_align ≡ true →
      (i : ℕ) → i < old → Reserved (offset + i) (held_of a) → ⊥
  block-free offset old old_align request accepted i l =
      let standing = sound-standing request.sound in
      lies-unreserved standing.apart (acceptable-lies (held_of a) offset old old_align standing accepted) (omega arith) (omega arith)

  module _ (offset old old_align new new_align : ℕ) where
    grown-alike : (bytes others : List ℕ) → Alike (held_of a) bytes others → (to : ℕ) →
        (grow_of a (length bytes) offset old old_align new new_align).answer ≡ Ok to →
        Alike (held_of a) (carried bytes offset to old) (carried others offset to old)
    unfolding grow_of
    grown-alike bytes others alike to e =
        let (is, up) = grow-served a (length bytes) offset old old_align new new_align e in
        let change = grow-passes a (length bytes) offset old old_align new new_align (given-at a _ _ e).passed in
        carried-alike bytes others alike offset to old is.source (omega (arith, is.room))
        (block-free offset old old_align change.request change.accepted)

    pub grow-never-read : NeverRead a (λ bytes. grow_bytes a bytes offset old old_align new new_align)
    unfolding grow_bytes
    grow-never-read =
        never-read (held_of a) (λ lent. (grow_of a lent offset old old_align new new_align).answer) (λ bytes to. carried bytes offset to old) grown-alike

    pub grow-zeroed-never-read : NeverRead a (λ bytes. grow_zeroed_bytes a bytes offset old old_align new new_align)
    unfolding grow_zeroed_bytes
    grow-zeroed-never-read =
        never-read (held_of a) (λ lent. (grow_of a lent offset old old_align new new_align).answer)
        (λ bytes to. written (carried bytes offset to old) (to + old) (replicate (new - old) 0))
        (λ bytes others alike to e.
        let (is, up) = grow-served a (length bytes) offset old old_align new new_align e in
        let zeros : length {A = ℕ} (replicate (new - old) 0) ≡ new - old = length-replicate (new - old) 0 in
        let long = length-carried bytes offset to old is.source (omega (arith, is.room)) in
        written-alike (carried bytes offset to old) (carried others offset to old) (grown-alike bytes others alike to e) (to + old) (replicate (new - old) 0)
        (omega (arith, is.room)))

    pub shrink-never-read : NeverRead a (λ bytes. shrink_bytes a bytes offset old old_align new new_align)
    unfolding shrink_of shrink_bytes
    shrink-never-read =
        never-read (held_of a) (λ lent. (shrink_of a lent offset old old_align new new_align).answer) (λ bytes to. carried bytes offset to new)
        (λ bytes others alike to e.
        let (is, down) = shrink-served a (length bytes) offset old old_align new new_align e in
        let change = shrink-passes a (length bytes) offset old old_align new new_align (given-at a _ _ e).passed in
        carried-alike bytes others alike offset to new (omega (arith, is.source)) is.room
        (λ i l. block-free offset old old_align change.request change.accepted i (omega arith)))

  -- of old size 0 nothing is carried, and the offset was not tested
  pub resize-never-read : (offset old align new : ℕ) → NeverRead a (λ bytes. resize_bytes a bytes offset old align new)
  unfolding resize_of resize_bytes
  resize-never-read offset old align new =
      never-read (held_of a) (λ lent. (resize_of a lent offset old align new).answer) (λ bytes to. carried bytes offset to (min old new)) resized-alike
    where
      resized-alike : (bytes others : List ℕ) → Alike (held_of a) bytes others → (to : ℕ) → (resize_of a (length bytes) offset old align new).answer ≡ Ok to →
          Alike (held_of a) (carried bytes offset to (min old new)) (carried others offset to (min old new))
      resized-alike bytes others alike to e = ⊎_elim none-carried some-carried (eq-zero-or-pos old)
        where
          none-carried : old ≡ 0 → Alike (held_of a) (carried bytes offset to (min old new)) (carried others offset to (min old new))
          none-carried empty =
              let nothing : min old new ≡ 0 = omega (arith, min-le_left old new) in
              rw (nothing, carried-nothing bytes offset to, carried-nothing others offset to) alike

          some-carried : 0 < old → Alike (held_of a) (carried bytes offset to (min old new)) (carried others offset to (min old new))
          some-carried l =
              let is = resize-served a offset old align new (length bytes) l e in
              let passed = (given-at a _ _ e).passed in
              carried-alike bytes others alike offset to (min old new) (omega (arith, is.source, min-le_left old new)) (omega (arith, is.room, min-le_right old new))
              (λ i h.
              block-free offset old align (resize-passes a (length bytes) offset old align new passed) (resize-accepted a (length bytes) offset old align new passed l) i
              (omega (arith, min-le_left old new)))

  pub copy-in-never-read : (source : List ℕ) (align : ℕ) → NeverRead a (λ bytes. copy_in_bytes a bytes source align)
  unfolding copy_in_bytes
  copy-in-never-read source align =
      never-read (held_of a) (λ lent. (allocate_of a lent (length source) align).answer) (λ bytes to. written bytes to source)
      (λ bytes others alike to e. written-alike bytes others alike to source (copy-in-copies a bytes align to source e).inside)

  pub fill-never-read : (size align value : ℕ) → NeverRead a (λ bytes. fill_bytes a bytes size align value)
  unfolding fill_bytes
  fill-never-read size align value =
      never-read (held_of a) (λ lent. (allocate_of a lent size align).answer) (λ bytes to. written bytes to (replicate size value))
      (λ bytes others alike to e. written-alike bytes others alike to (replicate size value) (fill-fills a bytes align to size value e).inside)
