-- `calls::bytes::set_all` stores in the bytes that it is lent, and the test of its code tells so. Computed. Assumes nothing.
use mathlib.Core.Bool.{false}
use mathlib.Core.Path.{◌≡◌, refl}
use Rattle.calls.specs.Stores.{stores_nothing}
use Rattle.calls.proofs.bytes.set_all.Code as code

pub set-all-stores : stores_nothing code.function ≡ false
set-all-stores = refl
