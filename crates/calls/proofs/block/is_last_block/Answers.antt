-- `calls::block::is_last_block` meets its contract: the last held place is the current chunk, and the block is at its pointer and ends in it.
-- Assumes nothing.
use native.Mathlib.Omega.{arith}
use mathlib.Core.Bool.{true}
use mathlib.Core.Path.{◌≡◌, refl, sym, ◌∙◌}
use Rattle.rounding.proofs.Powers.{power-one-bit}
use Rattle.rounding.proofs.Tests.{true-false, left-true}
use Rattle.arena.specs.Sound.{allowed_align}
use Rattle.arena.proofs.Soundness.{sound-open, align-open}
use Rattle.calls.proofs.Last.{last_block}
use Rattle.arena.proofs.Current.{current-is}
use Rattle.calls.proofs.Reading.{current-sound, current-end}
use Rattle.calls.proofs.block.is_last_block.Goals as goal

pub returns-in_default : goal.returns-in_default
returns-in_default c = λ e. absurd (true-false e refl)

pub returns-then-block-c : goal.returns-then-block-c
returns-then-block-c c = λ e. absurd (true-false e refl)

pub overflow_add-c : goal.overflow_add-c
overflow_add-c c =
    omega (arith, current-end (sound-open _ c.args.a.now.sound) (current-is _ (sym c.current.ensures ∙ c.in-Some.is)))

pub overflow_sub-c : goal.overflow_sub-c
overflow_sub-c c =
    let now = current-is _ (sym c.current.ensures ∙ c.in-Some.is) in
    let current = current-sound (sound-open _ c.args.a.now.sound) now in
    omega (arith, c.if-block-c.false, current.below_end)

pub returns-then-c-block : goal.returns-then-c-block
returns-then-c-block c = λ e. absurd (true-false e refl)

pub returns-then-not-is_allowed_align : goal.returns-then-not-is_allowed_align
returns-then-not-is_allowed_align c = λ e. absurd (true-false e refl)

pub is_multiple_of_power-requires : goal.is_multiple_of_power-requires
is_multiple_of_power-requires c =
    let allowed : allowed_align c.args.block.layout.align ≡ true = left-true c.is_allowed_align.ensures c.if-not-is_allowed_align.false in
    power-one-bit (align-open _ allowed).power

pub returns : goal.returns
returns c =
    let now = current-is _ (sym c.current.ensures ∙ c.in-Some.is) in
    let current = current-sound (sound-open _ c.args.a.now.sound) now in
    let allowed : allowed_align c.args.block.layout.align ≡ true = left-true c.is_allowed_align.ensures c.if-not-is_allowed_align.false in
    λ e.
    last_block c.args.block.offset c.args.block.layout.size current c.if-block-c.false (omega (arith, c.if-c-block.false, c.if-block-c.false, current.below_end)) _ c.args.block.layout.align
    now.newest (sound-open _ c.args.a.now.sound).head.region_bound allowed (sym c.is_multiple_of_power.ensures ∙ e)
