-- What "not refused otherwise" leaves out, so that no arena meets demand 3 by refusing: in every state of every sequence a call that asks for what document
-- 01 allows gives a block or answers ROOM, and a call that only ends or lends a live block is done.
use Rattle.std.specs.Prelude.{ℕ, ◌≤◌, ◌≡◌, true, Option, None, Some, Ok}
use Rattle.arena.specs.declared.Arena.{Arena}
use Rattle.arena.specs.Numbers.{most}
use Rattle.arena.specs.Sound.{allowed_align}
use Rattle.calls.specs.declared.Token.{Token}
use Rattle.calls.specs.Allocate.{allocate_of}
use Rattle.calls.specs.Free.{free_of}
use Rattle.calls.specs.Grow.{grow_of}
use Rattle.calls.specs.Shrink.{shrink_of}
use Rattle.calls.specs.Resize.{resize_of}
use Rattle.calls.specs.Token.{with_token_of, cancel_of}
use Rattle.calls.specs.Write.{lend_of}
use Rattle.sequence.specs.Ledger.{Live}
use Rattle.sequence.specs.Room.{NotRefusedOtherwise}

-- a size and an alignment that are allowed
abbrev pub Allowed : ℕ → ℕ → Type 0
Allowed size align = (size ≤ most) × (allowed_align align ≡ true)

pub record Heard (a : Arena) (lent : ℕ) : Type 0 where
  pub of_allocate : (size align : ℕ) → Allowed size align → NotRefusedOtherwise (allocate_of a lent size align).answer
  pub of_with_token : (size align : ℕ) → Allowed size align → NotRefusedOtherwise (with_token_of a lent size align).answer

-- a block without a token has nothing to cancel
abbrev pub CancelDone : Arena → ℕ → Option Token → Type 0
CancelDone a offset None = Unit {0}
CancelDone a offset (Some token) = (cancel_of a offset token).answer ≡ (Ok tt)

pub record HeardOfBlock (a : Arena) (lent : ℕ) (b : Live) : Type 0 where
  pub of_grow : (new new_align : ℕ) → Allowed new new_align → b.size ≤ new →
      NotRefusedOtherwise (grow_of a lent b.offset b.size b.align new new_align).answer
  pub of_shrink : (new new_align : ℕ) → Allowed new new_align → new ≤ b.size →
      NotRefusedOtherwise (shrink_of a lent b.offset b.size b.align new new_align).answer
  pub of_resize : (new : ℕ) → new ≤ most → NotRefusedOtherwise (resize_of a lent b.offset b.size b.align new).answer
  pub of_free : (free_of a b.offset b.size b.align).answer ≡ (Ok tt)
  pub of_cancel : CancelDone a b.offset b.token
  pub of_lend : lend_of a lent b.offset b.size b.align ≡ (Ok tt)
