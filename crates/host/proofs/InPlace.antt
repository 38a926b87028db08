-- An inner form's answer, of a record that is lent and changed in its place. Assumes nothing.
use mathlib.Core.Path.{◌≡◌, sym, ap, ◌∙◌}
use Rattle.arena.specs.declared.Arena.{Arena}
use Rattle.arena.specs.declared.Outcome.{Outcome}
use Rattle.calls.specs.declared.Answered.{Answered}
use Rattle.calls.specs.Inner.{answered_of, AnsweredBy}

-- of a, the record as it was read, and b, the one that is lent: the answer is the call's
pub answered-in-place : {a b : Arena} → a ≡ b → {T : Type 0} (call : Arena → Outcome T) (got : Answered T) → AnsweredBy call a got → answered_of b got ≡ call b
answered-in-place read call got answered = ap (λ (x : Arena). answered_of x got) (sym read) ∙ answered ∙ ap call read
