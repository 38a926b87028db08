-- `reshape::shrink::shrink_placed` meets its contract: the fast part's pointer, and the kept bytes carried to it; or else the whole call. Assumes nothing.
use Prim.Native.Nat.{ℕ}
use native.Mathlib.Omega.{arith}
use mathlib.Core.Path.{◌≡◌, refl, sym, ◌∙◌, ap}
use lib.ListN.{length}
use Rattle.arena.specs.declared.Arena.{Arena}
use Rattle.arena.specs.declared.change.Change.TheVariants.{Moved}
use Rattle.calls.specs.Bytes.{carried, after_given}
use Rattle.calls.specs.Shrink.{shrink_of, shrink_bytes}
use Rattle.calls.specs.Inner.{answered_of}
use Rattle.calls.proofs.Answering.{bytes-shown}
use Rattle.calls.proofs.Changing.{shrink-served}
use Rattle.reshape.proofs.shrink.shrink_placed.Goals as goal
use Rattle.arena.specs.Refusals.{Allocation}
use Rattle.std.specs.Prelude.{Ok, Some}
use Rattle.arena.specs.Inner.{lent_of}

pub carry-requires : goal.carry-requires
carry-requires c =
    let own : Arena = lent_of c.args.a.now.lent in
    let answered : (p : ℕ) → c.shrink_fast.result ≡ Some p → let s = c.args in answered_of own (record { answer = Ok p; change = Moved p }) ≡ shrink_of own (length s.region.now) s.block.offset s.block.layout.size s.block.layout.align s.new.size s.new.align = λ p e. let s = c.args in
    c.shrink_fast.ensures p e
    ∙ sym (ap (λ (lent : ℕ). shrink_of own lent s.block.offset s.block.layout.size s.block.layout.align s.new.size s.new.align) c.requires) in
    let s = c.args in
    let (is, down) =
    shrink-served own (length s.region.now) s.block.offset s.block.layout.size s.block.layout.align s.new.size s.new.align
    (sym (ap (λ (o : Allocation). o.answer) (answered _ c.in-Some.is))) in
    (omega (arith, is.source), omega (arith, is.room))

pub returns : goal.returns
unfolding shrink_bytes after_given
returns c =
    let own : Arena = lent_of c.args.a.now.lent in
    let answered : (p : ℕ) → c.shrink_fast.result ≡ Some p → let s = c.args in answered_of own (record { answer = Ok p; change = Moved p }) ≡ shrink_of own (length s.region.now) s.block.offset s.block.layout.size s.block.layout.align s.new.size s.new.align = λ p e. let s = c.args in
    c.shrink_fast.ensures p e
    ∙ sym (ap (λ (lent : ℕ). shrink_of own lent s.block.offset s.block.layout.size s.block.layout.align s.new.size s.new.align) c.requires) in
    let s = c.args in
    let is = answered _ c.in-Some.is in
    record {
      placed_by = ap (answered_of own) c.moved.ensures ∙ is;
      region_after = c.carry.ensures ∙ bytes-shown (λ (to : ℕ). carried s.region.now s.block.offset to s.new.size) s.region.now is refl;
    }
