-- A contract that says what an outcome equals leaves one outcome: whatever two calls with the same arguments answer, leave in the record or leave
-- in the region, is the same where each meets the same statement. Assumes nothing.
use mathlib.Core.Path.{◌≡◌, sym, ◌∙◌}

pub settled {ℓ} : {A : Type ℓ} {said one other : A} → one ≡ said → other ≡ said → one ≡ other
settled p q = p ∙ sym q
