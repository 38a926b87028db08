-- What an optional value tells that is there, or that comes of another. Assumes nothing.
use mathlib.Core.Path.{◌≡◌, refl, sym}
use Rattle.std.specs.Prelude.{Option, None, Some, option_map}
use Rattle.std.proofs.lemmas.Option.{none-some, same_Some}

module _ {A : Type 0} where
  pub some-none : (a : A) → Some a ≡ None → ⊥
  some-none a e = none-some a (sym e)

  pub mapped_some : {B : Type 0} (f : A → B) (o : Option A) {b : B} → option_map f o ≡ Some b → ((a : A) × (o ≡ Some a) × (f a ≡ b))
  mapped_some f None {b} e = absurd (none-some b e)
  mapped_some f (Some a) {b} e = (a, refl, same_Some (f a) b e)
