-- `arena::sizing::usable_size` meets its contract: an allowed alignment keeps what is rounded up in range. Assumes nothing.
use native.Mathlib.Omega.{arith}
use Rattle.rounding.proofs.Rounding.{up-near}
use Rattle.arena.proofs.Soundness.{align-open}
use Rattle.arena.proofs.sizing.usable_size.Goals as goal

pub usable_for-requires : goal.usable_for-requires
usable_for-requires c = omega (arith, (align-open c.args.request.layout.align c.args.request.align).bound, up-near c.args.request.layout.size c.max.result (omega arith), c.args.request.size)
