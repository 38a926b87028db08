-- What is known of the block that a call gives out, for any record: where it comes from, that it lies in the region, and that the chunks stand.
-- Assumes nothing.
use Prim.Native.Nat.{ℕ, ◌+◌, ◌≤◌, ◌<◌}
use native.Mathlib.Nat.{eq-zero-or-pos}
use native.Mathlib.Omega.{arith}
use mathlib.Core.Bool.{true}
use mathlib.Core.Logic.{⊎_elim}
use Rattle.std.specs.Prelude.{Option, None, Some, Ok}
use mathlib.Core.Path.{◌≡◌, refl, sym, ◌∙◌}
use Rattle.arena.specs.declared.Arena.{Arena}
use Rattle.arena.specs.declared.Refusal.{Refusal}
use Rattle.arena.specs.Record.{held_of}
use Rattle.arena.specs.Refusals.{refused_by}
use Rattle.arena.proofs.Standing.{Standing, sound-standing}
use Rattle.calls.specs.Tests.{acceptable}
use Rattle.calls.specs.Allocate.{Taken, given, allocate_in, request_tests}
use Rattle.calls.specs.Grow.{grow_in, grow_tests}
use Rattle.calls.specs.Shrink.{shrink_in, shrink_tests}
use Rattle.calls.specs.Resize.{resize_in, resize_tests}
use Rattle.calls.proofs.Passing.{Request, request-passes, grow-passes, shrink-passes, resize-passes, resize-accepted}
use Rattle.calls.proofs.Serving.{Served, allocate-serves}
use Rattle.calls.proofs.Moving.{Moved, afresh, grow-moves, shrink-moves, resize-moves}
use Rattle.calls.proofs.Needing.{resize-afresh}
use Rattle.calls.proofs.Blocks.{Lies, acceptable-aligned, acceptable-lies, lies-inside, served-inside, served-stands, served-lies, moved_inside, moved-stands, moved-lies}

-- the answer is a block's offset where no test refuses the call and the rules give the block
pub record GivenAt (r : Option Refusal) (o : Option Taken) (to : ℕ) : Type 0 where
  pub taken : Taken
  pub passed : r ≡ None
  pub gives : o ≡ Some taken
  pub there : taken.offset ≡ to

pub given-at : {to : ℕ} (a : Arena) (r : Option Refusal) (o : Option Taken) → (given r a o).answer ≡ Ok to → GivenAt r o to
unfolding given
given-at a (Some x) o e = absurd (let z : ◌≡◌ {A = ℕ} 0 1 = cc in omega arith)
given-at a None None e = absurd (let z : ◌≡◌ {A = ℕ} 0 1 = cc in omega arith)
given-at a None (Some t) e = record { taken = t; passed = refl; gives = refl; there = cc }

-- a fresh block
pub record Allocated (a : Arena) (lent size align : ℕ) (t : Taken) : Type 0 where
  pub request : Request a lent size align
  pub served : Served a.head size align t (held_of a)
  pub stands : Standing a.head t.chunks
  pub lies : Lies t.offset size t.chunks
  pub inside : t.offset + size ≤ lent

-- a block in place of another
pub record Replaced (a : Arena) (lent offset old new new_align : ℕ) (t : Taken) : Type 0 where
  pub request : Request a lent new new_align
  pub moved : Moved a.head offset old new new_align t (held_of a)
  pub stands : Standing a.head t.chunks
  pub lies : Lies t.offset new t.chunks
  pub inside : t.offset + new ≤ lent
  pub old-inside : 0 < old → offset + old ≤ lent

pub allocate-result : (a : Arena) (lent size align : ℕ) {t : Taken} → refused_by (request_tests a lent size align) ≡ None →
    allocate_in a.head (held_of a) size align ≡ Some t → Allocated a lent size align t
allocate-result a lent size align r o =
    let request = request-passes a lent size align r in
    let standing = sound-standing request.sound in
    let served = allocate-serves request.align_allowed.power (held_of a) standing o in
    record {
      request = request;
      served = served;
      stands = served-stands standing served;
      lies = served-lies standing served;
      inside = omega (arith, served-inside standing served, request.region);
    }

replaced : {a : Arena} {lent offset old new new_align : ℕ} {t : Taken} (old_align : ℕ) → Request a lent new new_align →
    acceptable (held_of a) offset old old_align ≡ true → Moved a.head offset old new new_align t (held_of a) → Replaced a lent offset old new new_align t
replaced {a} {offset = offset} {old = old} old_align request accepted moved =
    let standing = sound-standing request.sound in
    let lies = acceptable-lies (held_of a) offset old old_align standing accepted in
    record {
      request = request;
      moved = moved;
      stands = moved-stands standing lies moved;
      lies = moved-lies standing lies moved;
      inside = omega (arith, moved_inside standing lies moved, request.region);
      old-inside = λ l. omega (arith, lies-inside standing lies, request.region);
    }

module _ (a : Arena) (lent offset old old_align new new_align : ℕ) {t : Taken} where
  pub grow-result : refused_by (grow_tests a lent offset old old_align new new_align) ≡ None →
      grow_in a.head (held_of a) offset old old_align new new_align ≡ Some t →
      Replaced a lent offset old new new_align t
  grow-result r o =
      let change = grow-passes a lent offset old old_align new new_align r in
      replaced old_align change.request change.accepted
      (grow-moves old new change.old-allowed.power change.request.align_allowed.power
      (acceptable-aligned (held_of a) offset old old_align change.accepted) (held_of a) (sound-standing change.request.sound) o)

  pub shrink-result : refused_by (shrink_tests a lent offset old old_align new new_align) ≡ None →
      shrink_in a.head (held_of a) offset old old_align new new_align ≡ Some t →
      Replaced a lent offset old new new_align t
  shrink-result r o =
      let change = shrink-passes a lent offset old old_align new new_align r in
      replaced old_align change.request change.accepted
      (shrink-moves old new change.old-allowed.power change.request.align_allowed.power
      (acceptable-aligned (held_of a) offset old old_align change.accepted) change.direction (held_of a) (sound-standing change.request.sound) o)

-- of old size 0 the block is fresh, and the offset was not tested
pub resize-result : (a : Arena) (lent offset old align new : ℕ) {t : Taken} → refused_by (resize_tests a lent offset old align new) ≡ None →
    resize_in a.head (held_of a) offset old align new ≡ Some t → Replaced a lent offset old new align t
resize-result a lent offset old align new {t} r o = ⊎_elim fresh moves (eq-zero-or-pos old)
  where
    request : Request a lent new align
    request = resize-passes a lent offset old align new r

    standing : Standing a.head (held_of a)
    standing = sound-standing request.sound

    fresh : old ≡ 0 → Replaced a lent offset old new align t
    fresh empty =
        let served = allocate-serves request.align_allowed.power (held_of a) standing (sym (resize-afresh a.head (held_of a) offset old align new empty) ∙ o) in
        record {
          request = request;
          moved = afresh served;
          stands = served-stands standing served;
          lies = served-lies standing served;
          inside = omega (arith, served-inside standing served, request.region);
          old-inside = λ l. absurd (omega arith);
        }

    moves : 0 < old → Replaced a lent offset old new align t
    moves some_bytes =
        let accepted = resize-accepted a lent offset old align new r some_bytes in
        replaced align request accepted
        (resize-moves old new request.align_allowed.power (λ l. acceptable-aligned (held_of a) offset old align accepted) (held_of a) standing o)
