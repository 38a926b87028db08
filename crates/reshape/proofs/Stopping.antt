-- A call that is refused by what is lent to it. Assumes nothing.
use Prim.Native.Nat.{ℕ}
use Rattle.std.specs.Prelude.{Err}
use mathlib.Core.Path.{◌≡◌, sym}
use lib.Dec.{ltb}
use Rattle.arena.specs.declared.Arena.{Arena}
use Rattle.arena.specs.declared.Refusal.{Refusal}
use Rattle.calls.specs.Allocate.{given}
use Rattle.calls.specs.Grow.{grow_of}
use Rattle.calls.specs.Shrink.{shrink_of}
use Rattle.calls.specs.Resize.{resize_of}
use Rattle.calls.specs.Inner.{lent_tests, change_tests, first_of}
use Rattle.calls.proofs.Answering.{stopped-first}
use Rattle.calls.proofs.Resizing.{resize_rest}
use Rattle.calls.proofs.Testing.{tests-refuse}

module _ (a : Arena) (lent offset old old_align new new_align : ℕ) {r : Refusal} (e : first_of (lent_tests a lent) ≡ Err r) where
  pub grow-lent : grow_of a lent offset old old_align new new_align ≡ record { answer = Err r; arena = a }
  unfolding grow_of given
  grow-lent = stopped-first a (lent_tests a lent) (change_tests a offset old old_align new new_align (ltb new old)) _ (tests-refuse _ (sym e))

  pub shrink-lent : shrink_of a lent offset old old_align new new_align ≡ record { answer = Err r; arena = a }
  unfolding shrink_of given
  shrink-lent = stopped-first a (lent_tests a lent) (change_tests a offset old old_align new new_align (ltb old new)) _ (tests-refuse _ (sym e))

pub resize-lent : (a : Arena) (lent offset old align new : ℕ) {r : Refusal} → first_of (lent_tests a lent) ≡ Err r →
    resize_of a lent offset old align new ≡ record { answer = Err r; arena = a }
unfolding resize_of given
resize-lent a lent offset old align new e = stopped-first a (lent_tests a lent) (resize_rest a offset old align new) _ (tests-refuse _ (sym e))
