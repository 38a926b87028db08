-- `calls::refusals::lent_answer` meets its contract: the refusal, or that there is none. Assumes nothing.
use mathlib.Core.Bool.{true}
use mathlib.Core.Path.{◌≡◌, sym, subst}
use Rattle.std.proofs.lemmas.Result.{err_from_is_err_and}
use Rattle.arena.specs.Sound.{sound_of}
use Rattle.arena.specs.Inner.{lent_of}
use Rattle.calls.proofs.Testing.{lent-done}
use Rattle.calls.proofs.refusals.lent_answer.Goals as goal

pub returns-in_err-lent_sound : goal.returns-in_err-lent_sound
returns-in_err-lent_sound c =
    let p = err_from_is_err_and c.from_residual.result c.from_residual.ensures.1 in
    rw (p.1, p.2) (sym c.in_err-lent_sound.ensures.err)

pub returns : goal.returns
returns c =
    let known = c.in_ok-lent_sound.ensures.ok in
    sym (lent-done _ _ (subst (λ l. sound_of (lent_of l) ≡ true) known.0 c.in_ok-lent_sound.field-0.sound) known.1)
