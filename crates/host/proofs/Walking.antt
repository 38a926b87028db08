-- What is left of the held chunks from an index on: none from the count on, and before it the chunk at the place that is as far from the newest.
-- So the steps hand out the walk's parts, each once and in order (`hands_out`).
-- Assumes nothing.
use Prim.Native.Nat.{ℕ, zero, suc, ◌+◌, ◌-◌, ◌<◌, ◌≤◌}
use native.Mathlib.Omega.{arith}
use mathlib.Core.Path.{◌≡◌, refl, sym, ◌∙◌, ap, subst}
use mathlib.Core.Bool.{Bool, true, false, cond}
use mathlib.Core.List.{List, [], ◌∷◌, map}
use lib.ListN.{length, drop, drop_of_length-le}
use lib.Dec.{eqb, ltb}
use borrow.Author.Tests.{lt-ltb, ltb-true, ltb-false, ne_eqb}
use Rattle.arena.specs.declared.Arena.{Arena}
use Rattle.arena.specs.declared.Chunk.{Chunk}
use Rattle.arena.specs.declared.Refusal.{Refusal}
use Rattle.arena.specs.declared.lent.Lent as Rec
use Rattle.arena.specs.Inner.{lent_of}
use Rattle.arena.specs.Numbers.{places}
use Rattle.arena.specs.Record.{end_of, chunk_at, chunks_of, held_of}
use Rattle.arena.specs.Refusals.{number_of, Answer}
use Rattle.arena.specs.Sound.{sound_of}
use Rattle.arena.proofs.View.{length-chunks, chunks-newest, chunks-at}
use Rattle.arena.proofs.Soundness.{ChunkSound, sound-open}
use Rattle.calls.proofs.Testing.{Lent, lent-passes, lent-done, tests-pass}
use Rattle.host.specs.declared.SaidStep.{SaidStep}
use Rattle.host.specs.Walk.{walk_answer, chunk_part, parts_of, walk_parts, step, said_step, step_of, step_part, next_index, handed_out}
use Rattle.std.specs.Prelude.{Err, Ok}

module _ (starts sizes pointers : List ℕ) where
  abbrev chunks : ℕ → List Chunk
  chunks = chunks_of starts sizes pointers

  pub left-chunks : (n i : ℕ) → drop i (chunks n) ≡ chunks (n - i)
  unfolding chunks_of
  left-chunks n zero =
      let same : n ≡ n - 0 = omega arith in
      ap chunks same
  left-chunks zero (suc i) =
      let same : 0 ≡ 0 - suc i = omega arith in
      ap chunks same
  left-chunks (suc n) (suc i) =
      let same : n - i ≡ suc n - suc i = omega arith in
      left-chunks n i ∙ ap chunks same

  pub none_left : (n i : ℕ) → n ≤ i → drop i (chunks n) ≡ []
  none_left n i past =
      let short : length (chunks n) ≤ i = omega (arith, length-chunks starts sizes pointers n) in
      drop_of_length-le (chunks n) short

  pub some_left : (n i : ℕ) → i < n → drop i (chunks n) ≡ chunk_at starts sizes pointers (n - i - 1) ∷ chunks (n - i - 1)
  some_left n i before = left-chunks n i ∙ chunks-newest starts sizes pointers (n - i) (omega arith)

-- a walk that is not refused: the record is sound, and lent its own region
pub walked : (a : Arena) (lent : ℕ) → (Ok tt) ≡ walk_answer a lent → Lent a lent
unfolding walk_answer
walked a lent e = lent-passes a lent (tests-pass _ e)

-- and the other way round, of a lent record k that is known to be sound
pub passed : {k l : Rec.Lent} (a : Arena) (lent : ℕ) → k ≡ l → lent_of l ≡ a → sound_of (lent_of k) ≡ true → lent ≡ l.head.region → (Ok tt) ≡ walk_answer a lent
unfolding walk_answer
passed a lent same own sound whole =
    sym (lent-done a lent (sym (ap sound_of (ap lent_of same ∙ own)) ∙ sound) (whole ∙ ap (λ (r : Arena). r.head.region) own))

module _ (a : Arena) (lent : ℕ) (e : (Ok tt) ≡ walk_answer a lent) where
  abbrev count : ℕ
  count = a.head.count

  abbrev chunk : ℕ → Chunk
  chunk = chunk_at a.starts a.sizes a.pointers

  pub few : count ≤ places
  few = (sound-open a (walked a lent e).sound).head.count_bound

  pub chunk-sound : (i : ℕ) → i < count → ChunkSound a.head.region a.head.minimum (chunk i)
  chunk-sound i l =
      chunks-at a.starts a.sizes a.pointers (ChunkSound a.head.region a.head.minimum) l (sound-open a (walked a lent e).sound).chunks

  pub step-none : (index : ℕ) → count ≤ index → step 0 0 0 0 ≡ step_of a lent index
  unfolding step_of said_step
  step-none index past =
      ap (said_step (Ok tt)) (sym (none_left a.starts a.sizes a.pointers count index past))
      ∙ ap (λ (x : Answer). said_step x (drop index (held_of a))) e

  pub step-some : (index : ℕ) → index < count →
      let c = chunk (count - index - 1) in
      step 0 (count - index) c.pointer (end_of c - c.pointer) ≡ step_of a lent index
  unfolding step_of said_step
  step-some index before =
      let c = chunk (count - index - 1) in
      let rest = chunks_of a.starts a.sizes a.pointers (count - index - 1) in
      let long : count - index ≡ length (c ∷ rest) = omega (arith, length-chunks a.starts a.sizes a.pointers (count - index - 1)) in
      ap (λ (n : ℕ). step 0 n c.pointer (end_of c - c.pointer)) long
      ∙ ap (said_step (Ok tt)) (sym (some_left a.starts a.sizes a.pointers count index before))
      ∙ ap (λ (x : Answer). said_step x (drop index (held_of a))) e

-- refused, a step says the number and nothing else
pub step-refused : (a : Arena) (lent index : ℕ) {r : Refusal} → Err r ≡ walk_answer a lent → step (number_of r) 0 0 0 ≡ step_of a lent index
unfolding step_of said_step
step-refused a lent index e = ap (λ (x : Answer). said_step x (drop index (held_of a))) e

-- the part that a step tells lies in the region
pub step-inside : (a : Arena) (lent index : ℕ) → (step_of a lent index).offset + (step_of a lent index).length ≤ lent
step-inside a lent index = go (walk_answer a lent) refl
  where
    within : (s : _) → s ≡ step_of a lent index → s.offset + s.length ≤ lent → (step_of a lent index).offset + (step_of a lent index).length ≤ lent
    within s f l = subst (λ t. t.offset + t.length ≤ lent) f l

    by_index : (e : (Ok tt) ≡ walk_answer a lent) (t : Bool) → ltb index a.head.count ≡ t → (step_of a lent index).offset + (step_of a lent index).length ≤ lent
    by_index e false f = within _ (step-none a lent e index (ltb-false index a.head.count f)) (omega arith)
    by_index e true f =
        let before = ltb-true index a.head.count f in
        let c = chunk-sound a lent e (a.head.count - index - 1) (omega arith) in
        within _ (step-some a lent e index before) (omega (arith, c.below_end, c.inside, (walked a lent e).whole))

    go : (x : Answer) → walk_answer a lent ≡ x → (step_of a lent index).offset + (step_of a lent index).length ≤ lent
    go (Ok u) e = by_index (sym e) (ltb index a.head.count) refl
    go (Err r) e = within _ (step-refused a lent index (sym e)) (omega arith)

-- what the steps hand out, from an index on
module _ (a : Arena) (bytes : List ℕ) where
  abbrev at-step : ℕ → SaidStep
  at-step index = step_of a (length bytes) index

  -- one step of the walk, by what the step says is left
  by_left : ℕ → ℕ → ℕ → List (List ℕ)
  by_left n index left = cond (eqb left 0) [] (step_part bytes (at-step index) ∷ handed_out n a bytes (next_index index))

  ends : (n index : ℕ) → (at-step index).left ≡ 0 → handed_out n a bytes index ≡ []
  unfolding handed_out by_left
  ends zero index e = refl
  ends (suc n) index e = ap (by_left n index) e

  goes_on : (n index : ℕ) → 0 < (at-step index).left → index < places
      → handed_out (suc n) a bytes index ≡ step_part bytes (at-step index) ∷ handed_out n a bytes (suc index)
  unfolding handed_out next_index
  goes_on n index some few =
      ap (λ (t : Bool). cond t [] (step_part bytes (at-step index) ∷ handed_out n a bytes (next_index index))) (ne_eqb (at-step index).left 0 (λ none. omega (arith, none)))
      ∙ ap (λ (t : Bool). step_part bytes (at-step index) ∷ handed_out n a bytes (cond t (suc index) index)) (lt-ltb index places few)

  module _ (e : (Ok tt) ≡ walk_answer a (length bytes)) where
    abbrev held : ℕ
    held = a.head.count

    none-handed : (n index : ℕ) → held ≤ index → handed_out n a bytes index ≡ map (chunk_part bytes) (drop index (held_of a))
    none-handed n index past =
        ends n index (sym (ap (λ (s : SaidStep). s.left) (step-none a (length bytes) e index past)))
        ∙ sym (ap (map (chunk_part bytes)) (none_left a.starts a.sizes a.pointers held index past))

    some-handed : (n index : ℕ) → index < held → handed_out n a bytes (suc index) ≡ map (chunk_part bytes) (drop (suc index) (held_of a))
        → handed_out (suc n) a bytes index ≡ map (chunk_part bytes) (drop index (held_of a))
    some-handed n index before rest =
        let c = chunk_at a.starts a.sizes a.pointers (held - index - 1) in
        let said = step-some a (length bytes) e index before in
        let left : 0 < (at-step index).left = subst (λ (s : SaidStep). 0 < s.left) said (omega arith) in
        let same : held - suc index ≡ held - index - 1 = omega arith in
        goes_on n index left (omega (arith, few a (length bytes) e))
        ∙ ap (λ (s : SaidStep). step_part bytes s ∷ handed_out n a bytes (suc index)) (sym said)
        ∙ ap (λ (ps : List (List ℕ)). chunk_part bytes c ∷ ps) (rest ∙ ap (map (chunk_part bytes)) (left-chunks a.starts a.sizes a.pointers held (suc index) ∙ ap (chunks_of a.starts a.sizes a.pointers) same))
        ∙ sym (ap (map (chunk_part bytes)) (some_left a.starts a.sizes a.pointers held index before))

    done-handed : (n index : ℕ) → held ≤ n + index → handed_out n a bytes index ≡ map (chunk_part bytes) (drop index (held_of a))
    done-handed zero index enough = none-handed zero index (omega arith)
    done-handed (suc n) index enough = go (ltb index held) refl (done-handed n (suc index) (omega arith))
      where
        go : (t : Bool) → ltb index held ≡ t → handed_out n a bytes (suc index) ≡ map (chunk_part bytes) (drop (suc index) (held_of a))
            → handed_out (suc n) a bytes index ≡ map (chunk_part bytes) (drop index (held_of a))
        go true f rest = some-handed n index (ltb-true index held f) rest
        go false f rest = none-handed (suc n) index (ltb-false index held f)

  -- steps enough for the chunks hand out the walk's parts, and no more
  pub hands_out : (n : ℕ) → a.head.count ≤ n → handed_out n a bytes 0 ≡ walk_parts a bytes
  unfolding parts_of
  hands_out n enough = go (walk_answer a (length bytes)) refl
    where
      go : (x : Answer) → walk_answer a (length bytes) ≡ x → handed_out n a bytes 0 ≡ parts_of (walk_answer a (length bytes)) bytes (held_of a)
      go (Ok u) e = done-handed (sym e) n 0 (omega arith) ∙ sym (ap (λ (x : Answer). parts_of x bytes (held_of a)) e)
      go (Err r) e =
          ends n 0 (sym (ap (λ (s : SaidStep). s.left) (step-refused a (length bytes) 0 (sym e))))
          ∙ sym (ap (λ (x : Answer). parts_of x bytes (held_of a)) e)
