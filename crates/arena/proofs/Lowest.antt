-- The lowest place of a new chunk. The definition looks at each multiple that can lie in the region, in order, so that what it finds is the
-- least that fits, and where it finds none, none fits. Assumes nothing.
use Prim.Native.Nat.{ℕ, suc, ◌+◌, ◌*◌, ◌/◌, ◌≤◌, ◌<◌, ◌∣◌}
use native.Mathlib.Nat.{le_antisymm, mul-le-mul_right, le-div_iff_mul-le, div-mul_cancel, dvd-mul_left}
use native.Mathlib.Omega.{arith}
use mathlib.Core.Bool.{true}
use mathlib.Core.List.{List}
use mathlib.Core.Logic.{◌⊎◌, inl, inr, ⊎_elim}
use Rattle.std.specs.Prelude.{Option, None, Some}
use mathlib.Core.Path.{◌≡◌, refl, ◌∙◌, ap}
use lib.Dec.{leb}
use borrow.Author.Tests.{leb-true, le-leb}
use Rattle.rounding.specs.Every.{every, Each}
use Rattle.rounding.specs.First.{only}
use Rattle.rounding.proofs.First.{first-at, first-none, only-passed, only-failed}
use Rattle.rounding.proofs.Tests.{true-false, and_left, and_right, and_both, or_cases, or_left, or_right}
use Rattle.arena.specs.declared.Chunk.{Chunk}
use Rattle.arena.specs.Numbers.{footer}
use Rattle.arena.specs.Record.{past_of}
use Rattle.arena.specs.Placing.{misses, fits, lowest_place}
use Rattle.rounding.proofs.Every.{every-open, every-shut, every_map}

-- no byte from `at` up to `past` is one from `start` up to `end`
abbrev pub Misses : ℕ → ℕ → ℕ → ℕ → Type 0
Misses at past start end = (past ≤ start) ⊎ (end ≤ at)

pub misses-open : (at length : ℕ) (c : Chunk) → misses at length c ≡ true → Misses at (at + length) c.start (past_of c)
unfolding misses
misses-open at length c h =
    ⊎_elim (λ t. inl (leb-true (at + length) c.start t)) (λ t. inr (leb-true (past_of c) at t))
    (or_cases (leb (at + length) c.start) (leb (past_of c) at) h)

pub misses-shut : (at length : ℕ) (c : Chunk) → Misses at (at + length) c.start (past_of c) → misses at length c ≡ true
unfolding misses
misses-shut at length c =
    ⊎_elim (λ l. or_left (leb (past_of c) at) (le-leb (at + length) c.start l))
    (λ l. or_right (leb (at + length) c.start) (le-leb (past_of c) at l))

-- a chunk of n with its 48 lies in the region at this offset, and meets no held chunk
pub record Fits (region : ℕ) (cs : List Chunk) (n at : ℕ) : Type 0 where
  pub inside : at + n + footer ≤ region
  pub clear : Each (λ c. Misses at (at + n + footer) c.start (past_of c)) cs

pub fits-open : (region : ℕ) (cs : List Chunk) (n at : ℕ) → fits region cs n at ≡ true → Fits region cs n at
unfolding fits
fits-open region cs n at h =
    let within = leb (at + (n + footer)) region in
    let rest = every (misses at (n + footer)) cs in
    record {
      inside = omega (arith, leb-true (at + (n + footer)) region (and_left within rest h));
      clear = every_map fact cs (every-open (misses at (n + footer)) cs (and_right within rest h));
    }
  where
    fact : (c : Chunk) → misses at (n + footer) c ≡ true → Misses at (at + n + footer) c.start (past_of c)
    fact c t = ⊎_elim (λ l. inl (omega arith)) inr (misses-open at (n + footer) c t)

pub fits-shut : {region : ℕ} {cs : List Chunk} {n at : ℕ} → Fits region cs n at → fits region cs n at ≡ true
unfolding fits
fits-shut {region} {cs} {n} {at} f =
    and_both (le-leb (at + (n + footer)) region (omega arith))
    (every-shut (misses at (n + footer)) cs (every_map test cs f.clear))
  where
    test : (c : Chunk) → Misses at (at + n + footer) c.start (past_of c) → misses at (n + footer) c ≡ true
    test c m = misses-shut at (n + footer) c (⊎_elim (λ l. inl (omega arith)) inr m)

module _ (region : ℕ) (cs : List Chunk) (n : ℕ) {a : ℕ} (positive : 0 < a) where
  abbrev choice : ℕ → Option ℕ
  choice k = only (fits region cs n (k * a)) (k * a)

  passed_over : {x : ℕ} → a ∣ x → choice (x / a) ≡ None → Fits region cs n x → ⊥
  passed_over {x} d e f =
      let same = div-mul_cancel a d in
      true-false (rw same (fits-shut f)) (only-failed (fits region cs n (x / a * a)) (x / a * a) e)

  found : {at : ℕ} → lowest_place region cs a n ≡ Some at →
      (k : ℕ) × (fits region cs n (k * a) ≡ true) × (k * a ≡ at) × ((j : ℕ) → j < k → choice j ≡ None)
  unfolding lowest_place
  found h =
      let here = first-at (suc (region / a)) choice h in
      let k = here.place in
      let (fitting, same) = only-passed (fits region cs n (k * a)) (k * a) here.here in
      (k, fitting, same, here.before)

  -- where a place is found, it fits and no lower one does
  pub lowest-fits : {at : ℕ} → lowest_place region cs a n ≡ Some at → (a ∣ at) × Fits region cs n at
  lowest-fits h =
      let (k, fitting, same, before) = found h in
      rw (← same) (dvd-mul_left a k, fits-open region cs n (k * a) fitting)

  pub lowest-least : {at x : ℕ} → lowest_place region cs a n ≡ Some at → a ∣ x → Fits region cs n x → at ≤ x
  lowest-least {at} {x} h d f =
      let (k, fitting, same, before) = found h in
      let not_lower : ¬ (x / a < k) = λ l. passed_over d (before (x / a) l) f in
      let not-above : k ≤ x / a = omega arith in
      omega (arith, mul-le-mul_right a not-above, div-mul_cancel a d)

  -- where none is found, none fits
  pub lowest-none : {x : ℕ} → lowest_place region cs a n ≡ None → a ∣ x → Fits region cs n x → ⊥
  unfolding lowest_place
  lowest-none {x} h d f =
      let below : x / a ≤ region / a = (le-div_iff_mul-le positive).1 (omega (arith, div-mul_cancel a d, f.inside)) in
      passed_over d (first-none (suc (region / a)) choice h (x / a) (omega arith)) f

  -- and so the answer is settled
  pub lowest-is : {at : ℕ} → a ∣ at → Fits region cs n at → ((x : ℕ) → a ∣ x → Fits region cs n x → at ≤ x) →
      lowest_place region cs a n ≡ Some at
  lowest-is {at} d f least = go (lowest_place region cs a n) refl
    where
      go : (o : Option ℕ) → lowest_place region cs a n ≡ o → lowest_place region cs a n ≡ Some at
      go None e = absurd (lowest-none e d f)
      go (Some y) e =
          let (multiple, fitting) = lowest-fits e in
          e ∙ ap Some (le_antisymm (lowest-least e d f) (least y multiple fitting))

  pub none-lowest : ((x : ℕ) → a ∣ x → Fits region cs n x → ⊥) → lowest_place region cs a n ≡ None
  none-lowest never = go (lowest_place region cs a n) refl
    where
      go : (o : Option ℕ) → lowest_place region cs a n ≡ o → lowest_place region cs a n ≡ None
      go None e = e
      go (Some y) e =
          let (multiple, fitting) = lowest-fits e in
          absurd (never y multiple fitting)
