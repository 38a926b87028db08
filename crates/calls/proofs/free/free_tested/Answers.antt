-- `calls::free::free_tested` meets its contract: at the current pointer the pointer moves, and elsewhere the record holds what it held.
-- Assumes nothing.
use Prim.Native.Nat.{ℕ, ◌+◌}
use native.Mathlib.Omega.{arith}
use mathlib.Core.Bool.{true, false}
use mathlib.Core.List.{List, [], ◌∷◌}
use mathlib.Core.Path.{◌≡◌, refl, sym, ◌∙◌, ap}
use Rattle.rounding.specs.Round.{round_up}
use Rattle.rounding.proofs.Powers.{power-one-bit}
use Rattle.rounding.proofs.Tests.{taken_false, left-true}
use Rattle.arena.specs.declared.Chunk.{Chunk}
use Rattle.arena.specs.Record.{held_of, holding}
use Rattle.arena.specs.Inner.{moved_to, changed_by}
use Rattle.arena.proofs.Soundness.{sound-open}
use Rattle.arena.proofs.View.{holding-held}
use Rattle.calls.specs.Allocate.{at_pointer}
use Rattle.calls.specs.Free.{freed}
use Rattle.calls.proofs.free.free_tested.Goals as goal
use Rattle.arena.specs.Inner.{lent_of}

-- the definition by the one test that the code makes
module _ (minimum : ℕ) (cs : List Chunk) (offset size : ℕ) where
  freed-there : at_pointer cs offset ≡ true → freed minimum cs offset size ≡ moved_to cs (round_up (offset + size) minimum)
  unfolding freed moved_to at_pointer
  freed-there = go cs
    where
      go : (ds : List Chunk) → at_pointer ds offset ≡ true → freed minimum ds offset size ≡ moved_to ds (round_up (offset + size) minimum)
      go [] t = refl
      go (c ∷ ds) t = rw t

  freed-elsewhere : at_pointer cs offset ≡ false → freed minimum cs offset size ≡ cs
  unfolding freed at_pointer
  freed-elsewhere = go cs
    where
      go : (ds : List Chunk) → at_pointer ds offset ≡ false → freed minimum ds offset size ≡ ds
      go [] t = refl
      go (c ∷ ds) t = rw t

pub returns-then-not-is_at_pointer : goal.returns-then-not-is_at_pointer
unfolding changed_by
returns-then-not-is_at_pointer c =
    let a = lent_of c.args.a.now.lent in
    let elsewhere = taken_false c.is_at_pointer.ensures c.if-not-is_at_pointer.true in
    sym
    (ap (holding a.head) (freed-elsewhere a.head.minimum (held_of a) c.args.offset c.args.size elsewhere)
    ∙ holding-held (sound-open a c.args.a.now.sound))

pub overflow_add-offset : goal.overflow_add-offset
overflow_add-offset c = omega (arith, c.requires, (sound-open _ c.args.a.now.sound).head.region_bound)

pub up_to_power-requires : goal.up_to_power-requires
up_to_power-requires c =
    let head = (sound-open _ c.args.a.now.sound).head in
    (power-one-bit head.minimum-power, omega (arith, c.requires, head.region_bound, head.minimum-bound))

pub returns : goal.returns
unfolding changed_by
returns c =
    let a = lent_of c.args.a.now.lent in
    let there = left-true c.is_at_pointer.ensures c.if-not-is_at_pointer.false in
    ap (λ (p : ℕ). holding a.head (moved_to (held_of a) p)) c.up_to_power.ensures
    ∙ sym (ap (holding a.head) (freed-there a.head.minimum (held_of a) c.args.offset c.args.size there))
