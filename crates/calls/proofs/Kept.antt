-- The Rust library's Allocator page, in parts of the region: a served grow preserves the old bytes, `grow_zeroed` has zeros after them, a served shrink preserves
-- the first new-size bytes, and a resize what both sizes have. Byte by byte, and with what stays, this is in `Carrying`. Assumes nothing.
use Prim.Native.Nat.{ℕ, ◌+◌, ◌-◌, ◌≤◌, ◌<◌, min}
use native.Mathlib.Nat.{min-le_left, min-le_right}
use native.Mathlib.Omega.{arith}
use mathlib.Core.List.{List}
use mathlib.Core.Path.{◌≡◌, sym, ◌∙◌, ap}
use lib.ListN.{length, get_or, replicate, length-replicate, get_or-replicate}
use lib.Seq.{ext_get_or}
use Rattle.arena.specs.declared.Arena.{Arena}
use Rattle.calls.specs.Bytes.{part}
use Rattle.calls.specs.Grow.{grow_of, grow_bytes, grow_zeroed_bytes}
use Rattle.calls.specs.Shrink.{shrink_of, shrink_bytes}
use Rattle.calls.specs.Resize.{resize_of, resize_bytes}
use Rattle.calls.proofs.Carrying.{Carries, grow-carries, grow-zeroed-carries, shrink-carries, resize-carries}
use Rattle.calls.proofs.Changing.{grow-served, shrink-served}
use Rattle.calls.proofs.Resizing.{resize-served}
use Rattle.calls.proofs.Writing.{length_part, get_d_part}
use Rattle.std.specs.Prelude.{Ok}

-- two parts that read the same are equal
same-part : (after bytes : List ℕ) (to offset n : ℕ) → to + n ≤ length after → offset + n ≤ length bytes →
    ((i : ℕ) → i < n → get_or after (to + i) 0 ≡ get_or bytes (offset + i) 0) → part after to n ≡ part bytes offset n
same-part after bytes to offset n room source reads =
    let long = length_part after to n room in
    ext_get_or 0 (part after to n) (part bytes offset n) (long ∙ sym (length_part bytes offset n source))
    (λ i h. get_d_part after to n i (omega arith) ∙ reads i (omega arith) ∙ sym (get_d_part bytes offset n i (omega arith)))

kept : {bytes after : List ℕ} {offset to n size : ℕ} → Carries bytes after offset to n size → to + n ≤ length bytes → offset + n ≤ length bytes →
    part after to n ≡ part bytes offset n
kept {bytes} {after} {offset} {to} {n} c room source = same-part after bytes to offset n (omega (arith, c.only.same_length)) source c.reads

module _ (a : Arena) (bytes : List ℕ) (offset old old_align new new_align to : ℕ) where
  pub grow-keeps : (grow_of a (length bytes) offset old old_align new new_align).answer ≡ Ok to →
      part (grow_bytes a bytes offset old old_align new new_align) to old ≡ part bytes offset old
  grow-keeps e =
      let (is, up) = grow-served a (length bytes) offset old old_align new new_align e in
      kept (grow-carries a bytes offset old old_align new new_align to e) (omega (arith, is.room)) is.source

  pub grow-zeroed-keeps : (grow_of a (length bytes) offset old old_align new new_align).answer ≡ Ok to →
      part (grow_zeroed_bytes a bytes offset old old_align new new_align) to old ≡ part bytes offset old
  grow-zeroed-keeps e =
      let (is, up) = grow-served a (length bytes) offset old old_align new new_align e in
      kept (grow-zeroed-carries a bytes offset old old_align new new_align to e).kept (omega (arith, is.room)) is.source

  pub grow-zeroed-clears : (grow_of a (length bytes) offset old old_align new new_align).answer ≡ Ok to →
      part (grow_zeroed_bytes a bytes offset old old_align new new_align) (to + old) (new - old) ≡ replicate (new - old) 0
  grow-zeroed-clears e =
      let (is, up) = grow-served a (length bytes) offset old old_align new new_align e in
      let is-zeroed = grow-zeroed-carries a bytes offset old old_align new new_align to e in
      let after = grow_zeroed_bytes a bytes offset old old_align new new_align in
      let count : length {A = ℕ} (replicate (new - old) 0) ≡ new - old = length-replicate (new - old) 0 in
      let long = length_part after (to + old) (new - old) (omega (arith, is.room, is-zeroed.kept.only.same_length)) in
      ext_get_or 0 (part after (to + old) (new - old)) (replicate (new - old) 0) (long ∙ sym count)
      (λ i h.
      let place : to + old + i ≡ to + (old + i) = omega arith in
      get_d_part after (to + old) (new - old) i (omega arith)
      ∙ ap (λ (k : ℕ). get_or after k 0) place
      ∙ is-zeroed.zeros (old + i) (omega arith) (omega arith)
      ∙ sym (get_or-replicate (new - old) i 0 0 (omega arith)))

  pub shrink-keeps : (shrink_of a (length bytes) offset old old_align new new_align).answer ≡ Ok to →
      part (shrink_bytes a bytes offset old old_align new new_align) to new ≡ part bytes offset new
  shrink-keeps e =
      let (is, down) = shrink-served a (length bytes) offset old old_align new new_align e in
      kept (shrink-carries a bytes offset old old_align new new_align to e) is.room (omega (arith, is.source))

-- a block of size 0 has nothing to keep, and its offset may be any number
pub resize-keeps : (a : Arena) (bytes : List ℕ) (offset old align new to : ℕ) → 0 < old → (resize_of a (length bytes) offset old align new).answer ≡ Ok to →
    part (resize_bytes a bytes offset old align new) to (min old new) ≡ part bytes offset (min old new)
resize-keeps a bytes offset old align new to l e =
    let is = resize-served a offset old align new (length bytes) l e in
    kept (resize-carries a bytes offset old align new to e) (omega (arith, is.room, min-le_right old new)) (omega (arith, is.source, min-le_left old new))
