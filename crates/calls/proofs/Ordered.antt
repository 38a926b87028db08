-- The tests of each call stand in number order, so that the first that applies is the lowest: with these, `answered-lowest` and `lowest-answered`
-- of `Rattle.arena.proofs.Refusing` say of every call exactly when it answers which refusal. Each is computed. Assumes nothing.
use Prim.Native.Nat.{ℕ}
use mathlib.Core.Bool.{true}
use mathlib.Core.Path.{◌≡◌, refl}
use Rattle.arena.specs.declared.Arena.{Arena}
use Rattle.arena.specs.Refusals.{in_order}
use Rattle.calls.specs.declared.Token.{Token}
use Rattle.calls.specs.Allocate.{request_tests}
use Rattle.calls.specs.Free.{free_tests}
use Rattle.calls.specs.Grow.{grow_tests}
use Rattle.calls.specs.Shrink.{shrink_tests}
use Rattle.calls.specs.Resize.{resize_tests}
use Rattle.calls.specs.Token.{cancel_tests}
use Rattle.calls.specs.Write.{lend_tests}

module _ (a : Arena) (lent : ℕ) where
  pub request-in-order : (size align : ℕ) → in_order (request_tests a lent size align) ≡ true
  unfolding in_order
  request-in-order size align = refl

  pub free-in-order : (offset size align : ℕ) → in_order (free_tests a offset size align) ≡ true
  unfolding in_order
  free-in-order offset size align = refl

  pub grow-in-order : (offset old old_align new new_align : ℕ) → in_order (grow_tests a lent offset old old_align new new_align) ≡ true
  unfolding in_order
  grow-in-order offset old old_align new new_align = refl

  pub shrink-in-order : (offset old old_align new new_align : ℕ) → in_order (shrink_tests a lent offset old old_align new new_align) ≡ true
  unfolding in_order
  shrink-in-order offset old old_align new new_align = refl

  pub resize-in-order : (offset old align new : ℕ) → in_order (resize_tests a lent offset old align new) ≡ true
  unfolding in_order
  resize-in-order offset old align new = refl

  pub cancel-in-order : (offset : ℕ) (token : Token) → in_order (cancel_tests a offset token) ≡ true
  unfolding in_order
  cancel-in-order offset token = refl

  pub lend-in-order : (offset size align : ℕ) → in_order (lend_tests a lent offset size align) ≡ true
  unfolding in_order
  lend-in-order offset size align = refl
