-- A block that allocate gave lies in the region that was lent. Assumes nothing.
use Prim.Native.Nat.{ℕ, ◌+◌, ◌≤◌}
use native.Mathlib.Omega.{arith}
use mathlib.Core.Path.{◌≡◌}
use Rattle.arena.specs.declared.Arena.{Arena}
use Rattle.arena.specs.Record.{held_of}
use Rattle.arena.specs.Refusals.{refused_by}
use Rattle.calls.specs.Allocate.{allocate_in, request_tests, allocate_of}
use Rattle.calls.proofs.Results.{given-at, allocate-result}
use Rattle.std.specs.Prelude.{Ok}

pub allocated-inside : (a : Arena) (lent size align : ℕ) {offset : ℕ} → (allocate_of a lent size align).answer ≡ Ok offset → offset + size ≤ lent
unfolding allocate_of
allocated-inside a lent size align e =
    let at = given-at a (refused_by (request_tests a lent size align)) (allocate_in a.head (held_of a) size align) e in
    omega (arith, at.there, (allocate-result a lent size align at.passed at.gives).inside)
