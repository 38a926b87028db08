-- The table and the list of chunks are two views of one thing: a place of the table is an element of the list, and a column that is zero past the count is the
-- list's own. Assumes nothing.
use Prim.Native.Nat.{ℕ, zero, suc, ◌+◌, ◌-◌, ◌≤◌, ◌<◌}
use native.Mathlib.Decide.{le_ind}
use native.Mathlib.Nat.{le_refl}
use native.Mathlib.Numerals.{add-one}
use native.Mathlib.Omega.{arith}
use mathlib.Core.Bool.{Bool, true, false}
use mathlib.Core.List.{List, [], ◌∷◌, ◌++◌}
use mathlib.Core.Path.{◌≡◌, refl, sym, ◌∙◌, ap}
use lib.ListN.{length, get_or, take, set, replicate, length-set, length-replicate, take-append-drop}
use lib.Seq.{length-take-le, take-suc, append_snoc, set_at, set-set, get_or-set_same, get_or-set_other}
use Rattle.rounding.specs.Every.{every, Each}
use Rattle.rounding.proofs.Tests.{and_both, refute, true-false}
use Rattle.arena.specs.declared.Head.{Head}
use Rattle.arena.specs.declared.Arena.{Arena}
use Rattle.arena.specs.declared.Chunk.{Chunk}
use Rattle.arena.specs.Numbers.{places}
use Rattle.arena.specs.Record.{with_pointer, record_of, chunk_at, chunks_of, held_of, column, holding}
use Rattle.arena.specs.Sound.{limit_formed}
use Rattle.rounding.proofs.Every.{every-open}
use Rattle.arena.proofs.Soundness.{Settings, ChunkSound, Apart, Unused, Sound, zeros-at, unused-by}

same-chunk : {c d : Chunk} → c.start ≡ d.start → c.size ≡ d.size → c.pointer ≡ d.pointer → c ≡ d
same-chunk e f g = λ i. record { start = e i; size = f i; pointer = g i }

module _ (starts sizes pointers : List ℕ) where
  abbrev chunks : ℕ → List Chunk
  chunks = chunks_of starts sizes pointers

  abbrev at : ℕ → Chunk
  at = chunk_at starts sizes pointers

  pub length-chunks : (k : ℕ) → length (chunks k) ≡ k
  unfolding chunks_of
  length-chunks zero = refl
  length-chunks (suc k) = ap suc (length-chunks k)

  -- one place more is one chunk more
  pub chunks-next : (k : ℕ) → chunks (k + 1) ≡ at k ∷ chunks k
  unfolding chunks_of
  chunks-next k = rw add-one

  -- the current chunk is at the last held place
  pub chunks-newest : (k : ℕ) → 0 < k → chunks k ≡ at (k - 1) ∷ chunks (k - 1)
  chunks-newest k l =
      let whole : k - 1 + 1 ≡ k = omega arith in
      rw whole at (chunks-next (k - 1))

  -- what holds of a list and so of its rest holds of the places before
  pub chunks-before : (P : List Chunk → Type 0) → ((c : Chunk) (cs : List Chunk) → P (c ∷ cs) → P cs) → {i k : ℕ} → i ≤ k → P (chunks k) → P (chunks i)
  unfolding chunks_of
  chunks-before P rest {i} {k} l =
      le_ind (λ (m : ℕ). P (chunks m) → P (chunks i)) (λ h. h) (λ m g before h. before (rest (at m) (chunks m) h)) k l

  pub chunks-at : (P : Chunk → Type 0) {i k : ℕ} → i < k → Each P (chunks k) → P (at i)
  unfolding chunks_of
  chunks-at P l h = (chunks-before (Each P) (λ c cs g. g.1) l h).0

  -- a test that one place fails all fail, and a test that one more place passes all pass
  pub chunks-fail : (test : Chunk → Bool) {i k : ℕ} → i < k → test (at i) ≡ false → every test (chunks k) ≡ false
  chunks-fail test {i} {k} l f =
      refute (every test (chunks k)) (λ t. true-false (chunks-at (λ c. test c ≡ true) l (every-open test (chunks k) t)) f)

  pub chunks_pass : (test : Chunk → Bool) (k : ℕ) → test (at k) ≡ true → every test (chunks k) ≡ true → every test (chunks (k + 1)) ≡ true
  unfolding every
  chunks_pass test k t h = rw (chunks-next k) (and_both t h)

  -- what is written at a place past them changes none
  chunks-set : (n a b c : ℕ) {k : ℕ} → k ≤ n → chunks_of (set starts n a) (set sizes n b) (set pointers n c) k ≡ chunks k
  unfolding chunks_of
  chunks-set n a b c {k = zero} l = refl
  chunks-set n a b c {k = suc k} l =
      let other : (own : List ℕ) (v : ℕ) → get_or (set own n v) k 0 ≡ get_or own k 0 = λ own v. get_or-set_other own n k v 0 (omega arith) in
      let here : chunk_at (set starts n a) (set sizes n b) (set pointers n c) k ≡ at k = same-chunk (other starts a) (other sizes b) (other pointers c) in
      let rest = chunks-set n a b c {k = k} (omega arith) in
      cc

  -- a column of the list is the table's own as far as the count, and zero from there; so where the table's is too, they are equal
  module _ (part : Chunk → ℕ) (own : List ℕ) (long : length own ≡ places) (same : (i : ℕ) → part (at i) ≡ get_or own i 0) where
    column-chunks : (k : ℕ) → k ≤ places → column part (chunks k) ≡ take k own ++ replicate (places - k) 0
    unfolding column chunks_of
    column-chunks zero l = refl
    column-chunks (suc k) l =
        let more : places - k ≡ suc (places - suc k) = omega arith in
        let before = column-chunks k (omega arith) in
        let within : k < length own = omega arith in
        rw (before, length-chunks k, more, same k)
        (set_at (take k own) 0 (replicate (places - suc k) 0) (get_or own k 0) k (length-take-le k own (omega arith))
        ∙ sym (append_snoc (take k own) (get_or own k 0) (replicate (places - suc k) 0))
        ∙ ap (λ (xs : List ℕ). xs ++ replicate (places - suc k) 0) (sym (take-suc own k 0 within)))

    column-own : {k : ℕ} → k ≤ places → Unused k own → column part (chunks k) ≡ own
    column-own {k} l unused =
        column-chunks k l ∙ ap (λ (xs : List ℕ). take k own ++ xs) (sym unused.zeros) ∙ take-append-drop k own

-- a column has 32 places, and those past the list are zero
module _ (part : Chunk → ℕ) where
  pub length-column : (cs : List Chunk) → length (column part cs) ≡ places
  unfolding column
  length-column [] = length-replicate {A = ℕ} places 0
  length-column (c ∷ cs) = length-set (column part cs) (length cs) (part c) ∙ length-column cs

  column-past : (cs : List Chunk) (k : ℕ) → length cs ≤ k → get_or (column part cs) k 0 ≡ 0
  unfolding column
  column-past [] k l = zeros-at places k
  column-past (c ∷ cs) k l =
      get_or-set_other (column part cs) (length cs) k (part c) 0 (omega arith) ∙ column-past cs k (omega arith)

  column-unused : (cs : List Chunk) → Unused (length cs) (column part cs)
  column-unused cs = unused-by (length cs) (column part cs) (length-column cs) (λ k l g. column-past cs k g)

-- the table that holds a list, seen as a list, is that list
columns-held : (cs : List Chunk) → length cs ≤ places
    → chunks_of (column (λ c. c.start) cs) (column (λ c. c.size) cs) (column (λ c. c.pointer) cs) (length cs) ≡ cs
unfolding chunks_of column
columns-held [] l = refl
columns-held (c ∷ cs) l =
    let n = length cs in
    let written : (part : Chunk → ℕ) → get_or (set (column part cs) n (part c)) n 0 ≡ part c =
    λ part. get_or-set_same (column part cs) n (part c) 0 (omega (arith, length-column part cs)) in
    let here = same-chunk {d = c} (written (λ d. d.start)) (written (λ d. d.size)) (written (λ d. d.pointer)) in
    let kept = chunks-set (column (λ d. d.start) cs) (column (λ d. d.size) cs) (column (λ d. d.pointer) cs) n c.start c.size c.pointer (le_refl n) in
    let rest = columns-held cs (omega arith) in
    cc

pub held-holding : (h : Head) (cs : List Chunk) → length cs ≤ places → held_of (holding h cs) ≡ cs
unfolding holding
held-holding h cs l = columns-held cs l

pub holding-sound : {h : Head} (cs : List Chunk) → Settings h → length cs ≤ places → Each (ChunkSound h.region h.minimum) cs → Apart cs
    → Sound (holding h cs)
unfolding holding limit_formed
holding-sound {h} cs s l sound apart =
    let held = columns-held cs l in
    record {
      head =
          record {
            minimum-power = s.minimum-power;
            minimum-bound = s.minimum-bound;
            region_bound = s.region_bound;
            limit-formed = s.limit-formed;
            count_bound = l;
          };
      starts-unused = column-unused (λ c. c.start) cs;
      sizes-unused = column-unused (λ c. c.size) cs;
      pointers-unused = column-unused (λ c. c.pointer) cs;
      chunks = rw held sound;
      apart = rw held apart;
    }

abbrev pub with_count : Head → ℕ → Head
with_count h n = record { region = h.region; minimum = h.minimum; limited = h.limited; limit = h.limit; count = n }

-- a sound record's columns are those of the list that it holds
module _ {a : Arena} (s : Sound a) where
  held-count : length (held_of a) ≡ a.head.count
  held-count = length-chunks a.starts a.sizes a.pointers a.head.count

  held-starts : column (λ c. c.start) (held_of a) ≡ a.starts
  held-starts =
      column-own a.starts a.sizes a.pointers (λ c. c.start) a.starts s.starts-unused.long (λ i. refl) s.head.count_bound s.starts-unused

  held-sizes : column (λ c. c.size) (held_of a) ≡ a.sizes
  held-sizes =
      column-own a.starts a.sizes a.pointers (λ c. c.size) a.sizes s.sizes-unused.long (λ i. refl) s.head.count_bound s.sizes-unused

  held-pointers : column (λ c. c.pointer) (held_of a) ≡ a.pointers
  held-pointers =
      column-own a.starts a.sizes a.pointers (λ c. c.pointer) a.pointers s.pointers-unused.long (λ i. refl) s.head.count_bound s.pointers-unused

  pub holding-held : holding a.head (held_of a) ≡ a
  unfolding holding
  holding-held = λ i. record_of (with_count a.head (held-count i)) (held-starts i) (held-sizes i) (held-pointers i)

  -- a chunk is taken by writing it at the first unused place
  pub holding-taken : (c : Chunk) → holding a.head (c ∷ held_of a)
      ≡ record_of (with_count a.head (a.head.count + 1)) (set a.starts a.head.count c.start) (set a.sizes a.head.count c.size)
      (set a.pointers a.head.count c.pointer)
  unfolding holding column
  holding-taken c =
      let more : suc (length (held_of a)) ≡ a.head.count + 1 = omega (arith, held-count) in
      λ i. record_of (with_count a.head (more i)) (set (held-starts i) (held-count i) c.start) (set (held-sizes i) (held-count i) c.size)
      (set (held-pointers i) (held-count i) c.pointer)

  -- the current pointer is moved by writing it at the last held place
  pub holding-moved : {c : Chunk} {cs : List Chunk} → held_of a ≡ c ∷ cs → (p : ℕ) → holding a.head (with_pointer c p ∷ cs)
      ≡ record_of a.head a.starts a.sizes (set a.pointers (a.head.count - 1) p)
  unfolding holding column
  holding-moved {c} {cs} e p =
      let whole : suc (length cs) ≡ a.head.count = sym (ap length e) ∙ held-count in
      let last : length cs ≡ a.head.count - 1 = omega arith in
      let starts = sym (ap (column (λ d. d.start)) e) ∙ held-starts in
      let sizes = sym (ap (column (λ d. d.size)) e) ∙ held-sizes in
      let pointers = sym (ap (column (λ d. d.pointer)) e) ∙ held-pointers in
      let moved = sym (set-set (column (λ d. d.pointer) cs) (length cs) c.pointer p) ∙ ap (λ (own : List ℕ). set own (length cs) p) pointers in
      λ i. record_of (with_count a.head (whole i)) (starts i) (sizes i) ((moved ∙ ap (λ (k : ℕ). set a.pointers k p) last) i)
