-- `arena::sound::is_chunk_sound` meets its contract: a chunk that fails a test of the code lacks a fact of a sound chunk, and one that passes them all has each.
-- Assumes nothing.
use Prim.Native.Nat.{ℕ, ◌-◌, ◌≤◌}
use native.Mathlib.Omega.{arith}
use mathlib.Core.Bool.{true, false}
use mathlib.Core.Path.{◌≡◌, sym, ap}
use borrow.Author.Tests.{le-leb}
use lib.Bits.{bit_and, and_mask}
use lib.Dec.{eqb}
use Rattle.rounding.specs.Round.{multiple}
use Rattle.rounding.proofs.Powers.{Power, one-bit-power, power-positive}
use Rattle.rounding.proofs.Rounding.{dvd-multiple}
use Rattle.rounding.proofs.Tests.{refute, true-false}
use Rattle.arena.specs.declared.Chunk.{Chunk}
use Rattle.arena.specs.Numbers.{step, footer}
use Rattle.arena.specs.Record.{end_of, past_of}
use Rattle.arena.specs.Sound.{chunk_sound}
use Rattle.rounding.proofs.Tests.{taken_false, left-true}
use Rattle.arena.proofs.Soundness.{ChunkSound, chunk-open}
use Rattle.arena.proofs.sound.is_chunk_sound.Goals as goal

lacking : {region minimum : ℕ} {c : Chunk} → (ChunkSound region minimum c → ⊥) → false ≡ chunk_sound region minimum c
lacking {region} {minimum} {c} h = sym (refute (chunk_sound region minimum c) (λ t. h (chunk-open region minimum c t)))

masked : (n : ℕ) {m : ℕ} → Power m → eqb (bit_and n (m - 1)) 0 ≡ multiple m n
unfolding multiple
masked n p = rw p.value (ap (λ (r : ℕ). eqb r 0) (and_mask n p.exponent))

pub returns-then-region-lt-FOOTER : goal.returns-then-region-lt-FOOTER
returns-then-region-lt-FOOTER c = lacking (λ s. omega arith)

pub returns-then-room-c : goal.returns-then-room-c
returns-then-room-c c = lacking (λ s. omega arith)

pub returns-then-not-is_multiple : goal.returns-then-not-is_multiple
returns-then-not-is_multiple c =
    lacking (λ s. true-false (dvd-multiple step s.size-multiple) (taken_false c.is_multiple.ensures c.if-not-is_multiple.true))

pub returns-then-room-c-2 : goal.returns-then-room-c-2
returns-then-room-c-2 c = lacking (λ s. omega arith)

pub returns-then-not-is_multiple-2 : goal.returns-then-not-is_multiple-2
returns-then-not-is_multiple-2 c =
    lacking (λ s. true-false (dvd-multiple step s.start-multiple) (taken_false c.is_multiple-2.ensures c.if-not-is_multiple-2.true))

pub returns-then-c : goal.returns-then-c
returns-then-c c = lacking (λ s. omega arith)

pub returns-then-c-2 : goal.returns-then-c-2
returns-then-c-2 c = lacking (λ s. omega arith)

pub overflow_sub-result : goal.overflow_sub-result
overflow_sub-result c =
    power-positive (one-bit-power c.args.minimum c.requires)

-- Over the chunk alone, since `omega` would read every place on the way to the end.
inside-region : (region : ℕ) (d : Chunk) → footer ≤ region → d.size ≤ region - footer → d.start ≤ region - footer - d.size → past_of d ≤ region
inside-region region d r s t = omega arith

pub returns : goal.returns
unfolding chunk_sound
returns c =
    let size-multiple : multiple step c.args.c.size ≡ true = left-true c.is_multiple.ensures c.if-not-is_multiple.false in
    let start-multiple : multiple step c.args.c.start ≡ true = left-true c.is_multiple-2.ensures c.if-not-is_multiple-2.false in
    let a = c.args in
    rw (
      start-multiple,
      size-multiple,
      le-leb (past_of a.c) a.region (inside-region a.region a.c c.if-region-lt-FOOTER.false c.if-room-c.false c.if-room-c-2.false),
      le-leb a.c.start a.c.pointer c.if-c.false,
      le-leb a.c.pointer (end_of a.c) c.if-c-2.false,
    )
    (masked a.c.pointer (one-bit-power a.minimum c.requires))
