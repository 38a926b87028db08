-- The numbers that are counted to are those. Assumes nothing.
use mathlib.Core.Path.{refl}
use Rattle.requests.specs.Digits.{Counted}

pub counted : Counted
unfolding Counted
counted = (refl, refl, refl)
