-- `fast::lend::miravoly_sound_lend` meets its contract: of a sound record that is lent its own region only the block's tests are left. Assumes nothing.
use mathlib.Core.Path.{sym, ap, ◌∙◌}
use Rattle.arena.specs.declared.Arena.{Arena}
use Rattle.arena.specs.Refusals.{Answer}
use Rattle.calls.specs.Inner.{block_tests, first_of}
use Rattle.host.specs.Said.{said_part}
use Rattle.fast.proofs.InParts.{lend-of-own-region}
use Rattle.fast.proofs.lend.miravoly_sound_lend.Goals as goal

pub returns : goal.returns
returns c =
    let s = c.args in
    c.part_of.ensures
    ∙ ap (λ (x : Answer). said_part x s.offset s.size)
    (c.block_answer-answer.ensures
    ∙ ap (λ (a : Arena). first_of (block_tests a s.offset s.size s.align)) c.sound_in-sound.ensures
    ∙ sym (lend-of-own-region _ s.offset s.size s.align c.requires))
