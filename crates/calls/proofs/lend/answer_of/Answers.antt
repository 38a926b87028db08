-- `calls::lend::answer_of` meets its contract: the lent region's refusal, or else the block's answer. Assumes nothing.
use mathlib.Core.Path.{sym, ◌∙◌, ap}
use Rattle.std.proofs.lemmas.Result.{err_from_is_err_and}
use Rattle.arena.specs.Inner.{lent_of}
use Rattle.arena.specs.Sound.{sound_of}
use Rattle.calls.specs.Inner.{lent_tests, block_tests, first_of}
use Rattle.calls.proofs.Lending.{lend-refused, lend-rest}
use Rattle.calls.proofs.Testing.{tests-refuse, tests-pass, lent-done}
use Rattle.calls.proofs.lend.answer_of.Goals as goal

pub returns-in_err-sound : goal.returns-in_err-sound
returns-in_err-sound c =
    let s = c.args in
    let p = err_from_is_err_and c.from_residual.result c.from_residual.ensures.1 in
    rw (p.1, p.2)
    (sym
    (lend-refused s.a s.lent s.block.offset s.block.layout.size s.block.layout.align
    (tests-refuse _ (sym (sym (ap (λ a. first_of (lent_tests a s.lent)) c.lent.ensures) ∙ c.in_err-sound.ensures.err)))))

pub returns : goal.returns
returns c =
    let s = c.args in
    let known = c.in_ok-sound.ensures.ok in
    let own = ap lent_of known.0 ∙ c.lent.ensures in
    c.block_answer.ensures
    ∙ ap (λ a. first_of (block_tests a s.block.offset s.block.layout.size s.block.layout.align)) own
    ∙ sym
    (lend-rest s.a s.lent s.block.offset s.block.layout.size s.block.layout.align
    (tests-pass _
    (sym
    (lent-done s.a s.lent (sym (ap sound_of own) ∙ c.in_ok-sound.sound.sound) (known.1 ∙ ap (λ a. a.head.region) c.lent.ensures)))))
