-- `calls::bytes::fill` stores nothing itself and hands on a part of what it is lent, and the test of its code tells so. Computed. Assumes nothing.
use mathlib.Core.Bool.{false}
use mathlib.Core.Path.{◌≡◌, refl}
use Rattle.calls.specs.Stores.{stores_nothing}
use Rattle.calls.proofs.bytes.fill.Code as code

pub fill-hands-on : stores_nothing code.function ≡ false
fill-hands-on = refl
