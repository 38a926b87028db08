-- A call leaves the region's length in the record as it is. Assumes nothing.
use Rattle.std.specs.Prelude.{Option, None, Some}
use mathlib.Core.Path.{◌≡◌, refl}
use Rattle.arena.specs.declared.Arena.{Arena}
use Rattle.arena.specs.declared.Refusal.{Refusal}
use Rattle.arena.specs.Record.{holding}
use Rattle.arena.specs.Refusals.{answered}
use Rattle.calls.specs.Allocate.{Taken, given}

pub given-region : (o : Option Refusal) (a : Arena) (taken : Option Taken) → (given o a taken).arena.head.region ≡ a.head.region
unfolding given holding
given-region (Some r) a taken = refl
given-region None a None = refl
given-region None a (Some t) = refl

pub answered-region : (o : Option Refusal) (a changed : Arena) → changed.head.region ≡ a.head.region →
    (answered o a changed).arena.head.region ≡ a.head.region
unfolding answered
answered-region (Some r) a changed e = refl
answered-region None a changed e = e
