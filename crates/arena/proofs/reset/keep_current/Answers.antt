-- `arena::reset::keep_current` meets its contract: the last held place is the current chunk, and it goes to the first, where one chunk alone stands already.
-- Assumes nothing.
use Prim.Native.Nat.{◌-◌}
use native.Mathlib.Omega.{arith}
use Rattle.arena.proofs.Changing.{keeps-none, keeps-only, keeps-current, held-ends}
use Rattle.arena.proofs.Soundness.{sound-open}
use Rattle.arena.proofs.reset.keep_current.Goals as goal

pub returns-then-count-eq0 : goal.returns-then-count-eq0
returns-then-count-eq0 c = keeps-none (sound-open _ c.requires) c.if-count-eq0.true

pub overflow_add-pointers : goal.overflow_add-pointers
overflow_add-pointers c = omega (arith, held-ends (sound-open _ c.requires) 0 (omega (arith, c.if-count-eq1.true)))

pub returns-then-count-eq1 : goal.returns-then-count-eq1
returns-then-count-eq1 c = keeps-only (sound-open _ c.requires) c.if-count-eq1.true

pub offset_bounds-starts-last : goal.offset_bounds-starts-last
offset_bounds-starts-last c = omega (arith, (sound-open _ c.requires).head.count_bound)

pub bounds-starts-last : goal.bounds-starts-last
bounds-starts-last c = omega (arith, (sound-open _ c.requires).head.count_bound)

pub offset_bounds-sizes-last : goal.offset_bounds-sizes-last
offset_bounds-sizes-last c = omega (arith, (sound-open _ c.requires).head.count_bound)

pub bounds-sizes-last : goal.bounds-sizes-last
bounds-sizes-last c = omega (arith, (sound-open _ c.requires).head.count_bound)

pub overflow_add-pointers-2 : goal.overflow_add-pointers-2
overflow_add-pointers-2 c =
    omega (arith, held-ends (sound-open _ c.requires) (c.args.h.count - 1) (omega arith))

pub returns : goal.returns
returns c = keeps-current (sound-open _ c.requires) (omega arith)
