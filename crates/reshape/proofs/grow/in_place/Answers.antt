-- `reshape::grow::in_place` meets its contract: each way out is a case of the pointer in place, and the bytes asked for stay within the maximum.
-- Assumes nothing.
use Prim.Native.Nat.{ℕ, ◌-◌, ◌∣◌}
use native.Mathlib.Omega.{arith}
use mathlib.Core.List.{List}
use mathlib.Core.Path.{sym, ◌∙◌, ap}
use Rattle.arena.specs.declared.Chunk.{Chunk}
use Rattle.rounding.proofs.Powers.{power-positive, power-one-bit, two-to-the, power_divides}
use Rattle.rounding.proofs.Rounding.{up-at-least, up_least}
use Rattle.rounding.proofs.Tests.{taken_false, left-true}
use Rattle.arena.specs.Numbers.{most}
use Rattle.arena.specs.Record.{held_of}
use Rattle.arena.specs.Inner.{lent_of}
use Rattle.arena.proofs.Soundness.{sound-open}
use Rattle.calls.specs.Inner.{current_pointer}
use Rattle.calls.proofs.Growing.{not-to-higher, not-elsewhere, there}
use Rattle.reshape.proofs.grow.in_place.Goals as goal

pub returns-then-block-new : goal.returns-then-block-new
returns-then-block-new c =
    let held : List Chunk = held_of (lent_of c.args.a.now.lent) in
    let s = c.args in
    sym ((not-to-higher s.a.now.lent.head.minimum held s.block.offset s.block.layout.size s.block.layout.align s.new.size s.new.align c.if-block-new.true))

pub returns-then-not-is_at_pointer : goal.returns-then-not-is_at_pointer
returns-then-not-is_at_pointer c =
    let held : List Chunk = held_of (lent_of c.args.a.now.lent) in
    let s = c.args in
    sym
    (
    (not-elsewhere s.a.now.lent.head.minimum held s.block.offset s.block.layout.size s.block.layout.align s.new.size s.new.align
    (taken_false c.is_at_pointer.ensures c.if-not-is_at_pointer.true)))

pub up_to_power-requires : goal.up_to_power-requires
up_to_power-requires c =
    let t = c.requires.request in
    let head = (sound-open _ t.sound).head in
    (power-one-bit head.minimum-power, omega (arith, t.size_bound, head.minimum-bound))

pub overflow_sub-more : goal.overflow_sub-more
overflow_sub-more c =
    let head = (sound-open _ c.args.a.now.sound).head in
    omega (arith, c.up_to_power.ensures, c.requires.upwards, up-at-least c.args.new.size c.args.a.now.lent.head.minimum (power-positive head.minimum-power))

pub invariant_of-current_gives : goal.invariant_of-current_gives
invariant_of-current_gives c =
    let head = (sound-open _ c.args.a.now.sound).head in
    let even : c.args.a.now.lent.head.minimum ∣ most = power_divides head.minimum-power (two-to-the 30) (omega (arith, head.minimum-bound)) in
    record {
      size = omega (arith, c.up_to_power.ensures, up_least c.args.new.size c.args.a.now.lent.head.minimum even c.requires.request.size_bound);
      align = c.requires.old_align_allowed;
    }

pub returns : goal.returns
returns c =
    let held : List Chunk = held_of (lent_of c.args.a.now.lent) in
    let s = c.args in
    c.current_gives.ensures
    ∙ ap (λ (top : ℕ). (current_pointer s.a.now.lent.head.minimum held (top - s.block.layout.size) s.block.layout.align)) c.up_to_power.ensures
    ∙ sym
    (
    (there s.a.now.lent.head.minimum held s.block.offset s.block.layout.size s.block.layout.align s.new.size s.new.align c.if-block-new.false
    (left-true c.is_at_pointer.ensures c.if-not-is_at_pointer.false)))
