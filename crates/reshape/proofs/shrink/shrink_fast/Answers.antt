-- `reshape::shrink::shrink_fast` meets its contract: where it answers a pointer, no test of a shrink refuses and the block goes up in place.
-- Assumes nothing.
use Prim.Native.Nat.{ℕ, ◌-◌, ◌≤◌}
use native.Mathlib.Omega.{arith}
use mathlib.Core.Path.{◌≡◌, refl, sym, ◌∙◌, ap, subst}
use Rattle.rounding.specs.Round.{round_down, one_bit}
use Rattle.rounding.proofs.Powers.{power-one-bit, power-max}
use Rattle.rounding.proofs.Rounding.{down-at-most}
use Rattle.rounding.proofs.Tests.{left-true}
use Rattle.arena.specs.declared.Arena.{Arena}
use Rattle.arena.specs.declared.change.Change.TheVariants.{Moved}
use Rattle.arena.specs.Record.{held_of}
use Rattle.arena.specs.Inner.{lent_of}
use Rattle.arena.specs.Sound.{allowed_align}
use Rattle.arena.proofs.Soundness.{align-open, sound-open}
use Rattle.calls.specs.Inner.{LastBlock, ShrinkTested, answered_of}
use Rattle.calls.specs.Shrink.{given_up, shrink_of, shrunk_in_place}
use Rattle.std.proofs.lemmas.Option.{none-some, same_Some}
use Rattle.calls.proofs.Last.{last-shrinks}
use Rattle.calls.proofs.Placing.{placed-moved}
use Rattle.calls.proofs.Shrinking.{goes-up, shrinks-in-place}
use Rattle.calls.proofs.Testing.{block_inside}
use Rattle.reshape.proofs.shrink.shrink_fast.Goals as goal
use Rattle.std.specs.Prelude.{Ok}

pub returns-then-block-new : goal.returns-then-block-new
returns-then-block-new c = λ p e. absurd (none-some p e)

pub returns-then-new-block : goal.returns-then-new-block
returns-then-new-block c = λ p e. absurd (none-some p e)

pub returns-then-not-is_last_block : goal.returns-then-not-is_last_block
returns-then-not-is_last_block c = λ p e. absurd (none-some p e)

pub down_to_power-d-requires : goal.down_to_power-d-requires
down_to_power-d-requires c =
    let own : Arena = lent_of c.args.a.now.lent in
    let last : (let s = c.args in LastBlock own s.block.offset s.block.layout.size s.block.layout.align) = c.is_last_block.ensures (left-true refl c.if-not-is_last_block.false) in
    let tested : (let s = c.args in ShrinkTested own s.block.offset s.block.layout.size s.new.size s.new.align) = let s = c.args in
    record {
      request =
          record {
            sound = c.args.a.now.sound;
            size_bound = omega (arith, c.if-block-new.false, last.size_bound);
            align_allowed = ap allowed_align c.if-new-block.false ∙ last.align_allowed;
          };
      inside = block_inside own s.block.offset s.block.layout.size s.block.layout.align c.args.a.now.sound last.block;
      downwards = c.if-block-new.false;
    } in
    let r = tested.request in
    ap one_bit c.max.ensures ∙ power-one-bit (power-max (align-open _ r.align_allowed).power (sound-open _ r.sound).head.minimum-power)

pub overflow_add-d : goal.overflow_add-d
overflow_add-d c =
    let own : Arena = lent_of c.args.a.now.lent in
    let last : (let s = c.args in LastBlock own s.block.offset s.block.layout.size s.block.layout.align) = c.is_last_block.ensures (left-true refl c.if-not-is_last_block.false) in
    let at_most : c.down_to_power-d.result ≤ c.args.block.layout.size = let s = c.args in
    omega (arith, c.down_to_power-d.ensures, down-at-most (s.block.layout.size - s.new.size) c.max.result) in
    omega (arith, at_most, last.size_bound)

pub returns-then-d-block : goal.returns-then-d-block
returns-then-d-block c = λ p e. absurd (none-some p e)

pub overflow_add-result : goal.overflow_add-result
overflow_add-result c =
    let own : Arena = lent_of c.args.a.now.lent in
    let last : (let s = c.args in LastBlock own s.block.offset s.block.layout.size s.block.layout.align) = c.is_last_block.ensures (left-true refl c.if-not-is_last_block.false) in
    let tested : (let s = c.args in ShrinkTested own s.block.offset s.block.layout.size s.new.size s.new.align) = let s = c.args in
    record {
      request =
          record {
            sound = c.args.a.now.sound;
            size_bound = omega (arith, c.if-block-new.false, last.size_bound);
            align_allowed = ap allowed_align c.if-new-block.false ∙ last.align_allowed;
          };
      inside = block_inside own s.block.offset s.block.layout.size s.block.layout.align c.args.a.now.sound last.block;
      downwards = c.if-block-new.false;
    } in
    let at_most : c.down_to_power-d.result ≤ c.args.block.layout.size = let s = c.args in
    omega (arith, c.down_to_power-d.ensures, down-at-most (s.block.layout.size - s.new.size) c.max.result) in
    let t = tested in
    omega (arith, at_most, t.inside, (sound-open _ t.request.sound).head.region_bound)

pub returns : goal.returns
returns c =
    let own : Arena = lent_of c.args.a.now.lent in
    let last : (let s = c.args in LastBlock own s.block.offset s.block.layout.size s.block.layout.align) = c.is_last_block.ensures (left-true refl c.if-not-is_last_block.false) in
    let tested : (let s = c.args in ShrinkTested own s.block.offset s.block.layout.size s.new.size s.new.align) = let s = c.args in
    record {
      request =
          record {
            sound = c.args.a.now.sound;
            size_bound = omega (arith, c.if-block-new.false, last.size_bound);
            align_allowed = ap allowed_align c.if-new-block.false ∙ last.align_allowed;
          };
      inside = block_inside own s.block.offset s.block.layout.size s.block.layout.align c.args.a.now.sound last.block;
      downwards = c.if-block-new.false;
    } in
    λ p e.
    let s = c.args in
    let a = own in
    let d = c.down_to_power-d.result in
    let up : d ≡ given_up a.head.minimum s.block.layout.size s.new.size s.new.align =
    c.down_to_power-d.ensures ∙ ap (round_down (s.block.layout.size - s.new.size)) c.max.ensures in
    subst (λ (q : ℕ). answered_of a (record { answer = Ok q; change = Moved q }) ≡ shrink_of a a.head.region s.block.offset s.block.layout.size s.block.layout.align s.new.size s.new.align) (same_Some _ _ e)
    (placed-moved a
    (shrinks-in-place a.head (held_of a) s.block.offset s.block.layout.size s.block.layout.align s.new.size s.new.align (omega (arith, c.if-new-block.false))
    ∙ sym (ap (shrunk_in_place (held_of a) s.block.offset s.block.layout.size) up)
    ∙ goes-up (held_of a) s.block.offset s.block.layout.size d last.stands_at_pointer (omega (arith, c.if-d-block.false)))
    ∙ sym (last-shrinks a s.block.offset s.block.layout.size s.block.layout.align s.new.size s.new.align last tested))
