-- `calls::lend::lend` changes no byte: its code stores in its own locals alone, and calls nothing that it hands a reference, which is computed. So every
-- block of memory that was there before it runs, the region's too, is after it as it was, if its one call leaves it so. Assumes nothing.
use Prim.Native.Nat.{ℕ, ◌<◌}
use mathlib.Core.Bool.{true}
use mathlib.Core.List.{List}
use mathlib.Core.Path.{◌≡◌, refl}
use lib.ListN.{length}
use mir.Val.{Val}
use prog.Machine.{CallM, alloc_env, done, run_fn}
use prog.Memory.{Memory}
use Rattle.calls.specs.Stores.{stores_nothing}
use Rattle.calls.proofs.Unchanged.{Same, Quiet, run-keeps}
use Rattle.calls.proofs.lend.lend.Code as code

pub lend-stores-nothing : stores_nothing code.function ≡ true
lend-stores-nothing = refl

-- where the call that it makes, and hands no reference, leaves the block as it was
pub lend-changes-nothing : (block : ℕ) (C : CallM) (turns : ℕ) (handed : List Val) (before : Memory) → block < length before →
    Quiet block C (code.function).locals (alloc_env (code.function).locals before) → (after : Val × Memory) → run_fn C turns code.function handed before ≡ done after →
    Same block before after.1
lend-changes-nothing block C turns handed before = run-keeps block C turns code.function lend-stores-nothing handed before
