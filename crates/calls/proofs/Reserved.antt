-- The 48 bytes after a chunk's end are never written: a call changes bytes of the block that it gives alone, which lies between the start and the end of
-- one chunk, and the chunks are apart. Assumes nothing.
use Prim.Native.Nat.{ℕ, ◌+◌, ◌≤◌, ◌<◌}
use native.Mathlib.Omega.{arith}
use mathlib.Core.List.{List, ◌∷◌}
use mathlib.Core.Logic.{⊎_elim}
use Rattle.std.specs.Prelude.{Option, None, Some, Err, Ok}
use mathlib.Core.Path.{◌≡◌, refl, sym, subst, ap}
use lib.ListN.{length, get_or, length-replicate}
use Rattle.rounding.specs.Every.{Each}
use Rattle.arena.specs.declared.Arena.{Arena}
use Rattle.arena.specs.declared.Chunk.{Chunk}
use Rattle.arena.specs.declared.Head.{Head}
use Rattle.arena.specs.declared.Refusal.{Refusal}
use Rattle.arena.specs.declared.Refusal.TheVariants.{Room}
use Rattle.arena.specs.Record.{end_of, past_of, with_pointer, held_of}
use Rattle.arena.specs.Refusals.{refused_by, Given}
use Rattle.arena.proofs.Soundness.{Clear, Apart, sound-open}
use Rattle.arena.proofs.Standing.{Standing, sound-standing}
use Rattle.arena.proofs.View.{held-holding}
use Rattle.calls.specs.Bytes.{after_given}
use Rattle.calls.specs.Allocate.{Taken, given, allocate_of}
use Rattle.calls.specs.Grow.{grow_of, grow_bytes, grow_zeroed_bytes}
use Rattle.calls.specs.Shrink.{shrink_of, shrink_bytes}
use Rattle.calls.specs.Resize.{resize_of, resize_bytes}
use Rattle.calls.specs.Write.{copy_in_bytes, fill_bytes, lend_tests, lend_of}
use Rattle.calls.specs.Inner.{lent_tests, block_tests}
use Rattle.calls.specs.Reserved.{Reserved, of_current, of_older, NeverWritten}
use Rattle.calls.proofs.Blocks.{Lies, in-current, in-older, acceptable-lies}
use Rattle.calls.proofs.Serving.{Served, by-current, by-new}
use Rattle.calls.proofs.Moving.{Moved, afresh, recarved, staying}
use Rattle.calls.proofs.Testing.{passes-both, tests-pass, lent-passes, block-passes}
use Rattle.calls.proofs.Touching.{OnlyIn}
use Rattle.calls.proofs.Carrying.{grow-carries, grow-zeroed-carries, shrink-carries, resize-carries, copy-in-copies, fill-fills}
use Rattle.calls.proofs.Results.{Allocated, Replaced, allocate-result, grow-result, shrink-result, resize-result}

-- chunks that are clear of c reserve no byte of c, and c reserves no byte of a block of theirs
clear-unreserved : (c : Chunk) {x : ℕ} {cs : List Chunk} → Each (Clear c) cs → Reserved x cs → c.start ≤ x → x < end_of c → ⊥
clear-unreserved c clear (of_current low high) a b = ⊎_elim (λ g. omega arith) (λ g. omega arith) clear.0
clear-unreserved c clear (of_older r) a b = clear-unreserved c clear.1 r a b

lies-clear : (c : Chunk) {offset size x : ℕ} {cs : List Chunk} → Each (Clear c) cs → Lies offset size cs → offset ≤ x → x < offset + size →
    end_of c ≤ x → x < past_of c → ⊥
lies-clear c clear (in-current low high) a b l h = ⊎_elim (λ g. omega arith) (λ g. omega arith) clear.0
lies-clear c clear (in-older lies) a b l h = lies-clear c clear.1 lies a b l h

-- no byte of a block that lies in a chunk is reserved
pub lies-unreserved : {offset size x : ℕ} {cs : List Chunk} → Apart cs → Lies offset size cs → offset ≤ x → x < offset + size → Reserved x cs → ⊥
lies-unreserved apart (in-current low high) a b (of_current l h) = omega arith
lies-unreserved apart (in-current {c} low high) a b (of_older r) = clear-unreserved c apart.0 r (omega arith) (omega arith)
lies-unreserved apart (in-older {c} lies) a b (of_current l h) = lies-clear c apart.0 lies a b l h
lies-unreserved apart (in-older lies) a b (of_older r) = lies-unreserved apart.1 lies a b r

-- what is reserved stays reserved: the chunks are the same but for a pointer and one that is taken
repointed : {x : ℕ} {c : Chunk} {cs : List Chunk} (p : ℕ) → Reserved x (c ∷ cs) → Reserved x (with_pointer c p ∷ cs)
repointed p (of_current low high) = of_current low high
repointed p (of_older r) = of_older r

served-reserves : {h : Head} {size align x : ℕ} {t : Taken} {cs : List Chunk} → Served h size align t cs → Reserved x cs → Reserved x t.chunks
served-reserves {x = x} {t = t} (by-current taken) r = subst (Reserved x) (sym taken.chunks) (repointed t.offset r)
served-reserves {x = x} {t = t} (by-new c fresh taken) r = subst (Reserved x) (sym taken.chunks) (of_older r)

moved-reserves : {h : Head} {offset old new new_align x : ℕ} {t : Taken} {cs : List Chunk} → Moved h offset old new new_align t cs → Reserved x cs →
    Reserved x t.chunks
moved-reserves (afresh served) r = served-reserves served r
moved-reserves {x = x} {t = t} (recarved e chunks is) r = subst (Reserved x) (sym chunks) (repointed t.offset r)
moved-reserves {x = x} (staying e chunks less d) r = subst (Reserved x) (sym chunks) r

-- of a block that a call gives: the chunks stand, the block lies in one of them, and what was reserved is
record Gives (a : Arena) (size : ℕ) (t : Taken) : Type 0 where
  pub stands : Standing a.head t.chunks
  pub lies : Lies t.offset size t.chunks
  pub reserves : {x : ℕ} → Reserved x (held_of a) → Reserved x t.chunks

allocated-gives : {a : Arena} {lent size align : ℕ} {t : Taken} → Allocated a lent size align t → Gives a size t
allocated-gives is = record { stands = is.stands; lies = is.lies; reserves = served-reserves is.served }

replaced-gives : {a : Arena} {lent offset old new new_align : ℕ} {t : Taken} → Replaced a lent offset old new new_align t → Gives a new t
replaced-gives is = record { stands = is.stands; lies = is.lies; reserves = moved-reserves is.moved }

-- so where only bytes of the given block change, and none where the call is refused, no reserved byte does
never-written : (a : Arena) (bytes left : List ℕ) (size : ℕ) (r : Option Refusal) (o : Option Taken) →
    ((t : Taken) → r ≡ None → o ≡ Some t → Gives a size t) →
    ((to : ℕ) → (given r a o).answer ≡ Ok to → OnlyIn bytes left to (to + size)) →
    ((refusal : Refusal) → (given r a o).answer ≡ Err refusal → left ≡ bytes) →
    NeverWritten a (given r a o).arena bytes left
unfolding given
never-written a bytes left size (Some r) o gives only same x in_either = ap (λ (l : List ℕ). get_or l x 0) (same r refl)
never-written a bytes left size None None gives only same x in_either = ap (λ (l : List ℕ). get_or l x 0) (same Room refl)
never-written a bytes left size None (Some t) gives only same x in_either =
    let is = gives t refl refl in
    let held = held-holding a.head t.chunks is.stands.few in
    (only t.offset refl).elsewhere x (λ low high.
    lies-unreserved is.stands.apart is.lies low high (⊎_elim (λ before. is.reserves before) (λ after. subst (Reserved x) held after) in_either))

refused-same : (g : Given) (make : ℕ → List ℕ) (bytes : List ℕ) (r : Refusal) → g ≡ Err r → after_given g make bytes ≡ bytes
unfolding after_given
refused-same g make bytes r e = rw e

module _ (a : Arena) (bytes : List ℕ) where
  module _ (offset old old_align new new_align : ℕ) where
    pub grow-never-written : NeverWritten a (grow_of a (length bytes) offset old old_align new new_align).arena bytes (grow_bytes a bytes offset old old_align new new_align)
    unfolding grow_of grow_bytes
    grow-never-written =
        never-written a bytes _ new _ _ (λ t r o. replaced-gives (grow-result a (length bytes) offset old old_align new new_align r o))
        (λ to e. (grow-carries a bytes offset old old_align new new_align to e).only) (refused-same _ _ bytes)

    pub grow-zeroed-never-written :
        NeverWritten a (grow_of a (length bytes) offset old old_align new new_align).arena bytes (grow_zeroed_bytes a bytes offset old old_align new new_align)
    unfolding grow_of grow_zeroed_bytes
    grow-zeroed-never-written =
        never-written a bytes _ new _ _ (λ t r o. replaced-gives (grow-result a (length bytes) offset old old_align new new_align r o))
        (λ to e. (grow-zeroed-carries a bytes offset old old_align new new_align to e).kept.only) (refused-same _ _ bytes)

    pub shrink-never-written :
        NeverWritten a (shrink_of a (length bytes) offset old old_align new new_align).arena bytes (shrink_bytes a bytes offset old old_align new new_align)
    unfolding shrink_of shrink_bytes
    shrink-never-written =
        never-written a bytes _ new _ _ (λ t r o. replaced-gives (shrink-result a (length bytes) offset old old_align new new_align r o))
        (λ to e. (shrink-carries a bytes offset old old_align new new_align to e).only) (refused-same _ _ bytes)

  pub resize-never-written : (offset old align new : ℕ) →
      NeverWritten a (resize_of a (length bytes) offset old align new).arena bytes (resize_bytes a bytes offset old align new)
  unfolding resize_of resize_bytes
  resize-never-written offset old align new =
      never-written a bytes _ new _ _ (λ t r o. replaced-gives (resize-result a (length bytes) offset old align new r o))
      (λ to e. (resize-carries a bytes offset old align new to e).only) (refused-same _ _ bytes)

  pub copy-in-never-written : (source : List ℕ) (align : ℕ) →
      NeverWritten a (allocate_of a (length bytes) (length source) align).arena bytes (copy_in_bytes a bytes source align)
  unfolding allocate_of copy_in_bytes
  copy-in-never-written source align =
      never-written a bytes _ (length source) _ _ (λ t r o. allocated-gives (allocate-result a (length bytes) (length source) align r o))
      (λ to e. (copy-in-copies a bytes align to source e).only) (refused-same _ _ bytes)

  pub fill-never-written : (size align value : ℕ) →
      NeverWritten a (allocate_of a (length bytes) size align).arena bytes (fill_bytes a bytes size align value)
  unfolding allocate_of fill_bytes
  fill-never-written size align value =
      never-written a bytes _ size _ _ (λ t r o. allocated-gives (allocate-result a (length bytes) size align r o))
      (λ to e. subst (λ (n : ℕ). OnlyIn bytes (fill_bytes a bytes size align value) to (to + n)) (length-replicate size value) (fill-fills a bytes align to size value e).only)
      (refused-same _ _ bytes)

-- nor is a byte reserved that is lent
pub lent-unreserved : (a : Arena) (lent offset size align : ℕ) → lend_of a lent offset size align ≡ (Ok tt) →
    (x : ℕ) → offset ≤ x → x < offset + size → Reserved x (held_of a) → ⊥
unfolding lend_of
lent-unreserved a lent offset size align e x low high =
    let (region, block) = passes-both (lent_tests a lent) (block_tests a offset size align) (tests-pass (refused_by (lend_tests a lent offset size align)) (sym e)) in
    let standing = sound-standing (sound-open a (lent-passes a lent region).sound) in
    lies-unreserved standing.apart (acceptable-lies (held_of a) offset size align standing (block-passes a offset size align block).block) low high
