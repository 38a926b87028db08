-- `arena::sound::is_sound` meets its contract: the code goes through the definition's tests in their order, and of chunks that ascend it need not test the pairs.
-- Assumes nothing.
use Prim.Native.Nat.{◌≤◌}
use native.Mathlib.Omega.{arith}
use mathlib.Core.Bool.{true}
use mathlib.Core.Path.{◌≡◌, sym, ◌∙◌}
use borrow.Author.Tests.{eq-eqb, ne_eqb}
use Rattle.rounding.specs.Every.{every}
use Rattle.rounding.specs.Round.{one_bit}
use Rattle.rounding.proofs.Every.{every-open, every-shut, every_map}
use Rattle.rounding.proofs.Powers.{power-one-bit}
use Rattle.rounding.proofs.Tests.{taken_false, left-true}
use Rattle.arena.specs.declared.Arena.{Arena}
use Rattle.arena.specs.Numbers.{places}
use Rattle.arena.specs.Record.{held_of}
use Rattle.arena.specs.Sound.{head_sound, chunk_sound, table_sound, sound_of}
use Rattle.arena.proofs.Soundness.{ready-shut, head-open, chunk-open, chunk-shut, apart-shut, ascending-sound, ascending-apart}
use Rattle.arena.proofs.sound.is_sound.Goals as goal
use Rattle.arena.specs.Inner.{lent_of}

pub returns-then-not-is_head_sound : goal.returns-then-not-is_head_sound
unfolding sound_of
returns-then-not-is_head_sound c = rw (taken_false c.is_head_sound.ensures c.if-not-is_head_sound.true)

pub unused_bits-requires : goal.unused_bits-requires
unused_bits-requires c =
    let head_passed : head_sound c.args.a.now.head ≡ true = left-true c.is_head_sound.ensures c.if-not-is_head_sound.false in
    (head-open c.args.a.now.head head_passed).count_bound

pub returns-then-unused_bits-ne0 : goal.returns-then-unused_bits-ne0
unfolding sound_of table_sound
returns-then-unused_bits-ne0 c =
    let head_passed : head_sound c.args.a.now.head ≡ true = left-true c.is_head_sound.ensures c.if-not-is_head_sound.false in
    rw
    (head_passed, ← c.unused_bits.ensures, ne_eqb c.unused_bits.result 0 c.if-unused_bits-ne0.true)

pub are_ascending-requires : goal.are_ascending-requires
are_ascending-requires c =
    let head_passed : head_sound c.args.a.now.head ≡ true = left-true c.is_head_sound.ensures c.if-not-is_head_sound.false in
    let ordered : (let h = c.args.a.now.head in (one_bit h.minimum ≡ true) × (h.count ≤ places)) = let head = head-open c.args.a.now.head head_passed in
    (power-one-bit head.minimum-power, head.count_bound) in
    ordered

pub returns-then-are_ascending : goal.returns-then-are_ascending
unfolding sound_of table_sound
returns-then-are_ascending c =
    let arena_at : Arena = lent_of c.args.a.now in
    let head_passed : head_sound c.args.a.now.head ≡ true = left-true c.is_head_sound.ensures c.if-not-is_head_sound.false in
    let table-passed : table_sound arena_at ≡ true = sym c.unused_bits.ensures ∙ eq-eqb c.unused_bits.result 0 c.if-unused_bits-ne0.false in
    let h = c.args.a.now.head in
    let cs = held_of arena_at in
    let up = sym c.are_ascending.ensures ∙ c.if-are_ascending.true in
    rw (
      head_passed,
      table-passed,
      every-shut (chunk_sound h.region h.minimum) cs (every_map (λ d. chunk-shut) cs (ascending-sound h.region h.region h.minimum cs (omega arith) up)),
      apart-shut cs (ascending-apart h.region h.minimum cs up),
    )

pub are_chunks_sound-requires : goal.are_chunks_sound-requires
are_chunks_sound-requires c =
    let head_passed : head_sound c.args.a.now.head ≡ true = left-true c.is_head_sound.ensures c.if-not-is_head_sound.false in
    let ordered : (let h = c.args.a.now.head in (one_bit h.minimum ≡ true) × (h.count ≤ places)) = let head = head-open c.args.a.now.head head_passed in
    (power-one-bit head.minimum-power, head.count_bound) in
    ordered

pub returns-then-not-are_chunks_sound : goal.returns-then-not-are_chunks_sound
unfolding sound_of table_sound
returns-then-not-are_chunks_sound c =
    let arena_at : Arena = lent_of c.args.a.now in
    let head_passed : head_sound c.args.a.now.head ≡ true = left-true c.is_head_sound.ensures c.if-not-is_head_sound.false in
    let table-passed : table_sound arena_at ≡ true = sym c.unused_bits.ensures ∙ eq-eqb c.unused_bits.result 0 c.if-unused_bits-ne0.false in
    rw (head_passed, table-passed, taken_false c.are_chunks_sound.ensures c.if-not-are_chunks_sound.true)

pub invariant_of-are_apart : goal.invariant_of-are_apart
invariant_of-are_apart c =
    let arena_at : Arena = lent_of c.args.a.now in
    let head_passed : head_sound c.args.a.now.head ≡ true = left-true c.is_head_sound.ensures c.if-not-is_head_sound.false in
    let chunks-passed : every (chunk_sound c.args.a.now.head.region c.args.a.now.head.minimum) (held_of arena_at) ≡ true = left-true c.are_chunks_sound.ensures c.if-not-are_chunks_sound.false in
    let h = c.args.a.now.head in
    let head = head-open h head_passed in
    record {
      ready = ready-shut (record {
        region_bound = head.region_bound;
        count_bound = head.count_bound;
        inside =
            every_map (λ d t. (chunk-open h.region h.minimum d t).inside) (held_of arena_at)
            (every-open (chunk_sound h.region h.minimum) (held_of arena_at) chunks-passed);
      });
    }

pub returns : goal.returns
unfolding sound_of table_sound
returns c =
    let arena_at : Arena = lent_of c.args.a.now in
    let head_passed : head_sound c.args.a.now.head ≡ true = left-true c.is_head_sound.ensures c.if-not-is_head_sound.false in
    let table-passed : table_sound arena_at ≡ true = sym c.unused_bits.ensures ∙ eq-eqb c.unused_bits.result 0 c.if-unused_bits-ne0.false in
    let chunks-passed : every (chunk_sound c.args.a.now.head.region c.args.a.now.head.minimum) (held_of arena_at) ≡ true = left-true c.are_chunks_sound.ensures c.if-not-are_chunks_sound.false in
    rw (head_passed, table-passed, chunks-passed) c.are_apart.ensures
