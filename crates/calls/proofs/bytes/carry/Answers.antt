-- `calls::bytes::carry` meets its contract: carried to where they are, bytes stay as they are. Assumes nothing.
use mathlib.Core.Path.{◌≡◌, sym, ap, ◌∙◌}
use Prim.Native.Nat.{ℕ}
use native.Mathlib.Omega.{arith}
use Rattle.calls.specs.Bytes.{carried}
use Rattle.calls.proofs.Writing.{carried-stays, moved-carried}
use Rattle.calls.proofs.bytes.carry.Goals as goal

pub returns-then-from-to : goal.returns-then-from-to
returns-then-from-to c =
    let start = c.args in
    let same : start.from ≡ start.to = omega arith in
    sym (carried-stays start.region.now start.from start.n c.requires.0)
    ∙ ap (λ (to : ℕ). carried start.region.now start.from to start.n) same

pub returns-else-n-le64 : goal.returns-else-n-le64
returns-else-n-le64 c =
    let s = c.args in
    c.copy_within.ensures.after ∙ moved-carried s.region.now s.from s.to s.n c.requires.0
