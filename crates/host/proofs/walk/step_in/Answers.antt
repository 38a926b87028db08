-- `host::walk::step_in` meets its contract: the chunk as far from the newest as the index says. Assumes nothing.
use Prim.Native.Nat.{◌-◌}
use native.Mathlib.Omega.{arith}
use mathlib.Core.Path.{sym, ◌∙◌, ap, subst}
use Rattle.arena.specs.declared.Arena.{Arena}
use Rattle.arena.specs.declared.Chunk.{Chunk}
use Rattle.arena.specs.Inner.{lent_of}
use Rattle.arena.specs.Record.{end_of, chunk_at}
use Rattle.arena.proofs.Soundness.{ChunkSound, sound-open}
use Rattle.calls.specs.Inner.{lent_tests, first_of}
use Rattle.host.specs.Walk.{walk_answer, step}
use Rattle.host.proofs.Walking.{walked, passed, few, chunk-sound, step-none, step-some, step-refused}
use Rattle.host.proofs.walk.step_in.Goals as goal

pub returns-in-Err : goal.returns-in-Err
unfolding walk_answer
returns-in-Err c =
    let s = c.args in
    let answered = sym c.in-Err.ensures.err ∙ ap (λ (a : Arena). first_of (lent_tests a s.lent)) c.lent.ensures in
    let zeros = c.default.ensures in
    (λ i. record { refusal = c.number.ensures.value i; left = zeros.1.0 i; offset = zeros.1.1.0 i; length = zeros.1.1.1 i })
    ∙ step-refused s.a.now s.lent s.index answered

pub returns-then-count-index : goal.returns-then-count-index
returns-then-count-index c =
    let s = c.args in
    let done = passed s.a.now s.lent c.in-Ok.ensures.ok.0 c.lent.ensures c.in-Ok.sound.sound c.in-Ok.ensures.ok.1 in
    let zeros = c.default-then-count-index.ensures in
    (λ i. record { refusal = zeros.0 i; left = zeros.1.0 i; offset = zeros.1.1.0 i; length = zeros.1.1.1 i })
    ∙ step-none s.a.now s.lent done s.index c.if-count-index.true

pub chunk_at-c-requires : goal.chunk_at-c-requires
chunk_at-c-requires c =
    let s = c.args in
    let done = passed s.a.now s.lent c.in-Ok.ensures.ok.0 c.lent.ensures c.in-Ok.sound.sound c.in-Ok.ensures.ok.1 in
    omega (arith, few s.a.now s.lent done)

pub overflow_add-result : goal.overflow_add-result
overflow_add-result c =
    let s = c.args in
    let a = s.a.now in
    let done = passed a s.lent c.in-Ok.ensures.ok.0 c.lent.ensures c.in-Ok.sound.sound c.in-Ok.ensures.ok.1 in
    let place = a.head.count - s.index - 1 in
    let read = c.chunk_at-c.ensures ∙ ap (λ (r : Arena). chunk_at r.starts r.sizes r.pointers place) (ap lent_of c.in-Ok.ensures.ok.0 ∙ c.lent.ensures) in
    let sound : ChunkSound a.head.region a.head.minimum c.chunk_at-c.result =
    subst (ChunkSound a.head.region a.head.minimum) (sym read) (chunk-sound a s.lent done place (omega (arith, c.if-count-index.false))) in
    omega (arith, sound.inside, (sound-open a (walked a s.lent done).sound).head.region_bound)

pub overflow_sub-result : goal.overflow_sub-result
overflow_sub-result c =
    let s = c.args in
    let a = s.a.now in
    let done = passed a s.lent c.in-Ok.ensures.ok.0 c.lent.ensures c.in-Ok.sound.sound c.in-Ok.ensures.ok.1 in
    let place = a.head.count - s.index - 1 in
    let read = c.chunk_at-c.ensures ∙ ap (λ (r : Arena). chunk_at r.starts r.sizes r.pointers place) (ap lent_of c.in-Ok.ensures.ok.0 ∙ c.lent.ensures) in
    let sound : ChunkSound a.head.region a.head.minimum c.chunk_at-c.result =
    subst (ChunkSound a.head.region a.head.minimum) (sym read) (chunk-sound a s.lent done place (omega (arith, c.if-count-index.false))) in
    sound.below_end

pub returns : goal.returns
returns c =
    let s = c.args in
    let a = s.a.now in
    let done = passed a s.lent c.in-Ok.ensures.ok.0 c.lent.ensures c.in-Ok.sound.sound c.in-Ok.ensures.ok.1 in
    let place = a.head.count - s.index - 1 in
    let read = c.chunk_at-c.ensures ∙ ap (λ (r : Arena). chunk_at r.starts r.sizes r.pointers place) (ap lent_of c.in-Ok.ensures.ok.0 ∙ c.lent.ensures) in
    ap (λ (d : Chunk). step 0 (a.head.count - s.index) d.pointer (end_of d - d.pointer)) read
    ∙ step-some a s.lent done s.index c.if-count-index.false
