-- `host::walk::next_index` meets its contract. Assumes nothing.
use Prim.Native.Nat.{ℕ, suc, ◌+◌}
use native.Mathlib.Omega.{arith}
use mathlib.Core.Path.{◌≡◌, sym, ap, ◌∙◌}
use mathlib.Core.Bool.{Bool, cond}
use borrow.Author.Tests.{lt-ltb, le-ltb}
use Rattle.arena.specs.Numbers.{places}
use Rattle.host.specs.Walk.{next_index}
use Rattle.host.proofs.walk.next_index.Goals as goal

-- the next index, by the case of the test
by : ℕ → Bool → ℕ
by index t = cond t (suc index) index

pub returns-then-index-lt-PLACES : goal.returns-then-index-lt-PLACES
unfolding next_index by
returns-then-index-lt-PLACES c =
    let i = c.args.index in
    let next : i + 1 ≡ suc i = omega arith in
    next ∙ sym (ap (by i) (lt-ltb i places c.if-index-lt-PLACES.true))

pub returns : goal.returns
unfolding next_index by
returns c =
    let i = c.args.index in
    sym (ap (by i) (le-ltb i places c.if-index-lt-PLACES.false))
