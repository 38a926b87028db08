-- What the code of grow finds, stage by stage, is what its definition goes by: the pointer in place, then a fresh block. Assumes nothing.
use Prim.Native.Nat.{ℕ, ◌-◌, ◌≤◌, ◌<◌}
use mathlib.Core.Bool.{Bool, true, false, cond, ◌&&◌}
use mathlib.Core.List.{List}
use Rattle.std.specs.Prelude.{None, Some}
use Rattle.std.proofs.lemmas.Option.{none-some}
use mathlib.Core.Path.{◌≡◌, refl, ap}
use lib.Dec.{leb}
use borrow.Author.Tests.{le-leb, lt-leb}
use Rattle.rounding.specs.Round.{round_up}
use Rattle.rounding.proofs.Tests.{and_right, and_both, refute, true-false}
use Rattle.arena.specs.declared.Head.{Head}
use Rattle.arena.specs.declared.Chunk.{Chunk}
use Rattle.arena.specs.Inner.{moved_to}
use Rattle.calls.specs.Allocate.{Taken, at_pointer, current_gives, allocate_in}
use Rattle.calls.specs.Grow.{grown_in_place, or_afresh, grow_in}
use Rattle.calls.specs.Inner.{current_pointer, grown_pointer}
use Rattle.calls.proofs.Giving.{current-lacks, current-moved}

module _ (minimum : ℕ) (cs : List Chunk) (offset old old_align new new_align : ℕ) where
  abbrev allowed : Bool
  allowed = leb new_align old_align && at_pointer cs offset

  abbrev more : ℕ
  more = round_up new minimum - old

  pub not-to-higher : old_align < new_align → grown_pointer minimum cs offset old old_align new new_align ≡ None
  unfolding grown_pointer
  not-to-higher l = rw (lt-leb new_align old_align l)

  pub not-elsewhere : at_pointer cs offset ≡ false → grown_pointer minimum cs offset old old_align new new_align ≡ None
  unfolding grown_pointer
  not-elsewhere f =
      ap (λ (b : Bool). cond b (current_pointer minimum cs more old_align) None)
      (refute allowed (λ t. true-false (and_right (leb new_align old_align) (at_pointer cs offset) t) f))

  pub there : new_align ≤ old_align → at_pointer cs offset ≡ true → grown_pointer minimum cs offset old old_align new new_align ≡ current_pointer minimum cs more old_align
  unfolding grown_pointer
  there l t =
      ap (λ (b : Bool). cond b (current_pointer minimum cs more old_align) None) (and_both (le-leb new_align old_align l) t)

  pub grown-lacks : grown_pointer minimum cs offset old old_align new new_align ≡ None → grown_in_place minimum cs offset old old_align new new_align ≡ None
  unfolding grown_pointer grown_in_place
  grown-lacks e = go allowed e
    where
      go : (b : Bool) → cond b (current_pointer minimum cs more old_align) None ≡ None → cond b (current_gives minimum cs more old_align) None ≡ None
      go true f = current-lacks minimum cs more old_align f
      go false f = refl

  pub grown-moved : {p : ℕ} → grown_pointer minimum cs offset old old_align new new_align ≡ Some p →
      grown_in_place minimum cs offset old old_align new new_align ≡ Some (record { offset = p; chunks = moved_to cs p })
  unfolding grown_pointer grown_in_place
  grown-moved {p} e = go allowed e
    where
      go : (b : Bool) → cond b (current_pointer minimum cs more old_align) None ≡ Some p →
          cond b (current_gives minimum cs more old_align) None ≡ Some (record { offset = p; chunks = moved_to cs p })
      go true f = current-moved minimum cs more old_align f
      go false f = absurd (none-some p f)

module _ (h : Head) (cs : List Chunk) (offset old old_align new new_align : ℕ) where
  pub grows-in-place : {t : Taken} → grown_in_place h.minimum cs offset old old_align new new_align ≡ Some t →
      grow_in h cs offset old old_align new new_align ≡ Some t
  unfolding grow_in or_afresh
  grows-in-place e = rw e

  pub grows-afresh : grown_in_place h.minimum cs offset old old_align new new_align ≡ None →
      grow_in h cs offset old old_align new new_align ≡ allocate_in h cs new new_align
  unfolding grow_in or_afresh
  grows-afresh e = rw e
