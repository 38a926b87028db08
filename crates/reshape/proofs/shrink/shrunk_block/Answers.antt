-- `reshape::shrink::shrunk_block` meets its contract: in place by what is given up, at the same offset, or afresh. Assumes nothing.
use Prim.Native.Nat.{ℕ, ◌-◌}
use native.Mathlib.Omega.{arith}
use Rattle.std.specs.Prelude.{None}
use mathlib.Core.Path.{◌≡◌, refl, sym, ◌∙◌, ap}
use Rattle.rounding.specs.Round.{round_down, one_bit}
use Rattle.rounding.proofs.Powers.{power-one-bit, power-max}
use Rattle.rounding.proofs.Rounding.{down-at-most}
use Rattle.arena.specs.declared.Arena.{Arena}
use Rattle.arena.specs.Record.{held_of}
use Rattle.arena.specs.Inner.{lent_of}
use Rattle.arena.proofs.Soundness.{align-open, sound-open}
use Rattle.calls.specs.Allocate.{given}
use Rattle.calls.specs.Shrink.{given_up, shrunk_in_place}
use Rattle.calls.proofs.Placing.{placed-stays}
use Rattle.calls.proofs.Requests.{allocate-works}
use Rattle.calls.proofs.Shrinking.{shrinks-in-place, shrinks-aligned, shrinks-afresh}
use Rattle.reshape.proofs.shrink.shrunk_block.Goals as goal

pub down_to_power-d-requires : goal.down_to_power-d-requires
down_to_power-d-requires c =
    let align = (align-open c.args.new.align c.requires.request.align_allowed).power in
    ap one_bit c.max.ensures ∙ power-one-bit (power-max align (sound-open _ c.args.a.now.sound).head.minimum-power)

pub shrunk_in_place-requires : goal.shrunk_in_place-requires
shrunk_in_place-requires c = (
  c.requires.inside,
  omega (arith, c.down_to_power-d.ensures, down-at-most (c.args.block.layout.size - c.args.new.size) c.max.result),
)

pub returns-then-new-block : goal.returns-then-new-block
returns-then-new-block c =
    let own : Arena = lent_of c.args.a.now.lent in
    let s = c.args in
    let up : c.down_to_power-d.result ≡ given_up own.head.minimum s.block.layout.size s.new.size s.new.align =
    c.down_to_power-d.ensures ∙ ap (round_down (s.block.layout.size - s.new.size)) c.max.ensures in
    c.shrunk_in_place.ensures
    ∙ ap (λ (d : ℕ). given None own (shrunk_in_place (held_of own) s.block.offset s.block.layout.size d)) up
    ∙ sym (ap (given None own) (shrinks-in-place own.head (held_of own) s.block.offset s.block.layout.size s.block.layout.align s.new.size s.new.align c.if-new-block.true))

pub is_multiple_of_power-requires : goal.is_multiple_of_power-requires
is_multiple_of_power-requires c = power-one-bit (align-open _ c.requires.request.align_allowed).power

pub returns-then-is_multiple_of_power : goal.returns-then-is_multiple_of_power
returns-then-is_multiple_of_power c =
    let own : Arena = lent_of c.args.a.now.lent in
    let s = c.args in
    placed-stays own c.args.a.now.sound c.stay.ensures
    (shrinks-aligned own.head (held_of own) s.block.offset s.block.layout.size s.block.layout.align s.new.size s.new.align c.if-new-block.false
    (sym c.is_multiple_of_power.ensures ∙ c.if-is_multiple_of_power.true))

pub returns : goal.returns
returns c =
    let own : Arena = lent_of c.args.a.now.lent in
    let s = c.args in
    c.allocate_in_full.ensures
    ∙ allocate-works own _ s.new.size s.new.align refl c.requires.request
    ∙ sym
    (ap (given None own)
    (shrinks-afresh own.head (held_of own) s.block.offset s.block.layout.size s.block.layout.align s.new.size s.new.align c.if-new-block.false
    (sym c.is_multiple_of_power.ensures ∙ c.if-is_multiple_of_power.false)))
