-- What a grow or a shrink that no test refuses hands to its work; and where a block is answered, its old and its new bytes lie in the region.
-- Assumes nothing.
use Prim.Native.Nat.{ℕ, ◌+◌, ◌≤◌}
use native.Mathlib.Omega.{arith}
use mathlib.Core.Bool.{true}
use Rattle.std.specs.Prelude.{None, Ok}
use mathlib.Core.Path.{◌≡◌}
use borrow.Author.Tests.{eq-eqb}
use Rattle.rounding.proofs.Tests.{true-not}
use Rattle.arena.specs.declared.Arena.{Arena}
use Rattle.arena.specs.Record.{held_of}
use Rattle.arena.specs.Refusals.{refused_by}
use Rattle.arena.specs.Sound.{sound_of}
use Rattle.arena.proofs.Refusing.{none-applies}
use Rattle.arena.proofs.Soundness.{align-shut, sound-shut}
use Rattle.calls.specs.Grow.{grow_in, grow_tests, grow_of}
use Rattle.calls.specs.Shrink.{shrink_in, shrink_tests, shrink_of}
use Rattle.calls.specs.Inner.{Tested, GrowTested, ShrinkTested, lent_tests}
use Rattle.calls.proofs.Passing.{Request, Change, grow-passes, shrink-passes}
use Rattle.calls.proofs.Results.{given-at, grow-result, shrink-result}
use Rattle.calls.proofs.Testing.{block_inside}

-- of a sound record in its own region, the tests of what is lent refuse nothing
pub lent-own : (a : Arena) {lent : ℕ} → sound_of a ≡ true → lent ≡ a.head.region → refused_by (lent_tests a lent) ≡ None
lent-own a {lent} s e = none-applies (lent_tests a lent) (true-not s, (true-not (eq-eqb lent a.head.region e), tt))

pub request-tested : {a : Arena} {lent size align : ℕ} → Request a lent size align → Tested a size align
request-tested r = record { sound = sound-shut r.sound; size_bound = r.size_bound; align_allowed = align-shut r.align_allowed }

module _ {a : Arena} {lent offset old old_align new new_align : ℕ} where
  source-inside : {low high : ℕ} → Change a lent offset old old_align new new_align low high → offset + old ≤ a.head.region
  source-inside ch = block_inside a offset old old_align (sound-shut ch.request.sound) ch.accepted

  pub grow-tested : Change a lent offset old old_align new new_align old new → GrowTested a old old_align new new_align
  grow-tested ch = record { request = request-tested ch.request; old_align_allowed = align-shut ch.old-allowed; upwards = ch.direction }

  pub shrink-tested : Change a lent offset old old_align new new_align new old → ShrinkTested a offset old new new_align
  shrink-tested ch = record { request = request-tested ch.request; inside = source-inside ch; downwards = ch.direction }

-- the bytes of a block before a change and after it
pub record BothInside (lent offset old to new : ℕ) : Type 0 where
  pub source : offset + old ≤ lent
  pub room : to + new ≤ lent

-- of any record and any numbers
module _ (a : Arena) (lent offset old old_align new new_align : ℕ) {to : ℕ} where
  pub grow-served : (grow_of a lent offset old old_align new new_align).answer ≡ Ok to → BothInside lent offset old to new × (old ≤ new)
  unfolding grow_of
  grow-served e =
      let found =
      given-at a (refused_by (grow_tests a lent offset old old_align new new_align)) (grow_in a.head (held_of a) offset old old_align new new_align) e in
      let ch = grow-passes a lent offset old old_align new new_align found.passed in
      let is = grow-result a lent offset old old_align new new_align found.passed found.gives in
      (record { source = omega (arith, source-inside ch, ch.request.region); room = omega (arith, is.inside, found.there) }, ch.direction)

  pub shrink-served : (shrink_of a lent offset old old_align new new_align).answer ≡ Ok to → BothInside lent offset old to new × (new ≤ old)
  unfolding shrink_of
  shrink-served e =
      let found =
      given-at a (refused_by (shrink_tests a lent offset old old_align new new_align)) (shrink_in a.head (held_of a) offset old old_align new new_align) e in
      let ch = shrink-passes a lent offset old old_align new new_align found.passed in
      let is = shrink-result a lent offset old old_align new new_align found.passed found.gives in
      (record { source = omega (arith, source-inside ch, ch.request.region); room = omega (arith, is.inside, found.there) }, ch.direction)
