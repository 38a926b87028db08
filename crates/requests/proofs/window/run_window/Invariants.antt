-- `requests::window::run_window` meets its contract. The invariant: the bytes taken so far bring the machine to the record, the region and the
-- number at hand, and to the text written; each turn takes one record more. Assumes nothing.
use Prim.Native.Nat.{◌-◌}
use mathlib.Core.Path.{◌≡◌}
use lib.ListN.{length}
use Rattle.arena.specs.Record.{record_of}
use Rattle.requests.specs.Window.{memory_of}
use Rattle.requests.proofs.Stepping.{Reached}
use Rattle.requests.proofs.window.run_window.Given as goal

abbrev pub invariant-loop-out : goal.invariant-loop-out
invariant-loop-out l =
    Reached l.number (memory_of (record_of l.initial.head l.initial.starts l.initial.sizes l.initial.pointers) l.initial.region) l.window l.initial.out (record_of l.head l.starts l.sizes l.pointers) l.next l.taken l.written l.region l.out
    × (length l.region ≡ length l.initial.region)

abbrev pub decreases-loop-out : goal.decreases-loop-out
decreases-loop-out l =
    length l.window - l.taken
