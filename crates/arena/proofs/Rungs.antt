-- The ladder and its rungs. What is tried at a base is tried at any larger one, so the first served of all halvings that are tried is the
-- first served rung; and 64 halvings reach base 0, so no rung is left out. Assumes nothing.
use Prim.Native.Nat.{ℕ, suc, ◌+◌, ◌-◌, ◌*◌, ◌/◌, ◌^◌, ◌≤◌, ◌<◌, zero-le, max}
use native.Mathlib.Nat.{le_trans, le_of_eq, div-one, zero-max, suc-mul, add-sub_of_le, div-eq_of_lt, lt_of_lt_of_le}
use native.Mathlib.Decide.{dec_lt}
use native.Mathlib.Omega.{arith}
use mathlib.Core.Bool.{true, false, cond, and-false}
use mathlib.Core.List.{List, [], ◌∷◌}
use mathlib.Core.Logic.{◌⊎◌, inl, inr, ⊎_elim}
use Rattle.std.specs.Prelude.{Option, None, Some, option_map}
use Rattle.std.proofs.lemmas.Option.{none-some}
use mathlib.Core.Path.{◌≡◌, refl, sym, subst, ◌∙◌, ap}
use lib.Dec.{leb, ltb}
use lib.ListN.{length, get_or}
use lib.Arith.{lt_of_le-ne}
use lib.Pow.{pow_mono, shr-shr, shr_le}
use borrow.Author.Count.{below_more}
use borrow.Author.Tests.{leb-true, le-leb, ltb-true, lt-ltb, le-ltb, eqb-true, eq-eqb, ne_eqb}
use Rattle.rounding.specs.Every.{Each}
use Rattle.rounding.proofs.First.{FirstAt, first-at, at_first, first-none, none_first}
use Rattle.rounding.proofs.Tests.{decided, refute, true-false, or_left, or_right, or_cases, and_left, and_right, and_both, false-not}
use Rattle.arena.specs.declared.Head.{Head}
use Rattle.arena.specs.declared.Chunk.{Chunk}
use Rattle.arena.specs.Ladder.{held_bytes, floor_of, current_size, first_base, base_after, is_limited, small_limit, tried, under_limit, new_chunk, served_with, rung_chunk, ladder, Rung}
use Rattle.arena.specs.Placing.{lowest_place}
use Rattle.arena.specs.Sizing.{place_align, usable}
use Rattle.arena.specs.Numbers.{default_size, most, places}
use Rattle.arena.specs.Record.{past_of, chunks_of}
use Rattle.arena.proofs.Current.{Current}

-- the held bytes of one more place; each chunk that stands in the region adds no more than its length
pub held_more : (starts sizes pointers : List ℕ) (i : ℕ) →
    held_bytes (chunks_of starts sizes pointers (suc i)) ≡ get_or sizes i 0 + held_bytes (chunks_of starts sizes pointers i)
unfolding held_bytes chunks_of
held_more starts sizes pointers i = refl

pub held-bound : (region : ℕ) (cs : List Chunk) → Each (λ c. past_of c ≤ region) cs → held_bytes cs ≤ length cs * region
unfolding held_bytes
held-bound region [] inside = zero-le
held-bound region (c ∷ cs) inside =
    let rest = held-bound region cs inside.1 in
    let here : c.size ≤ region = omega (arith, inside.0) in
    rw suc-mul (omega arith)

-- the first base with no chunk, and with a current one
pub first-base-none : (cs : List Chunk) (size : ℕ) → cs ≡ [] → first_base cs size ≡ floor_of size
unfolding first_base current_size
first-base-none cs size e = rw e (zero-max (floor_of size))

pub first-base-current : (cs : List Chunk) (size : ℕ) {c : Chunk} → Current cs c → first_base cs size ≡ max (2 * c.size) (floor_of size)
unfolding first_base current_size
first-base-current cs size now = rw now.newest

-- the current chunk is no longer than the region that the held ones stand in
pub current-within : {region : ℕ} (cs : List Chunk) {c : Chunk} → Each (λ d. past_of d ≤ region) cs → Current cs c → past_of c ≤ region
current-within {region} cs inside now = (subst (Each (λ d. past_of d ≤ region)) now.newest inside).0

pub first-base-bound : {region size : ℕ} (cs : List Chunk) → Each (λ c. past_of c ≤ region) cs → region ≤ most → size ≤ most → first_base cs size ≤ 2 ^ 31
unfolding first_base current_size
first-base-bound [] inside r l = omega arith
first-base-bound (c ∷ cs) inside r l = omega (arith, inside.0)

-- "while all of these hold", as facts
pub record SmallLimit (h : Head) (held size base : ℕ) : Type 0 where
  pub limited : h.limited ≡ 1
  pub above-size : size < h.limit
  pub covers : size ≤ base
  pub below-default : h.limit < default_size
  pub nothing-held : held ≡ 0

module _ (h : Head) (held size base : ℕ) where
  pub small_open : small_limit h held size base ≡ true → SmallLimit h held size base
  unfolding small_limit
  small_open t =
      let t1 = and_right (is_limited h) _ t in
      let t2 = and_right (ltb size h.limit) _ t1 in
      let t3 = and_right (leb size base) _ t2 in
      record {
        limited = eqb-true h.limited 1 (and_left (is_limited h) _ t);
        above-size = ltb-true size h.limit (and_left (ltb size h.limit) _ t1);
        covers = leb-true size base (and_left (leb size base) _ t2);
        below-default = ltb-true h.limit default_size (and_left (ltb h.limit default_size) _ t3);
        nothing-held = eqb-true held 0 (and_right (ltb h.limit default_size) _ t3);
      }

  pub small_shut : SmallLimit h held size base → small_limit h held size base ≡ true
  unfolding small_limit
  small_shut s =
      and_both (eq-eqb h.limited 1 s.limited)
      (and_both (lt-ltb size h.limit s.above-size)
      (and_both (le-leb size base s.covers)
      (and_both (lt-ltb h.limit default_size s.below-default) (eq-eqb held 0 s.nothing-held))))

  -- a rung is tried at the floor or above, or under a small limit
  pub tried_open : tried h held size base ≡ true → (floor_of size ≤ base) ⊎ SmallLimit h held size base
  unfolding tried
  tried_open t =
      ⊎_elim (λ a. inl (leb-true (floor_of size) base a)) (λ b. inr (small_open b)) (or_cases (leb (floor_of size) base) _ t)

  pub tried-shut : (floor_of size ≤ base) ⊎ SmallLimit h held size base → tried h held size base ≡ true
  unfolding tried
  tried-shut (inl l) = or_left _ (le-leb (floor_of size) base l)
  tried-shut (inr s) = or_right (leb (floor_of size) base) (small_shut s)

  pub not-tried : base < floor_of size → (SmallLimit h held size base → ⊥) → tried h held size base ≡ false
  not-tried l g = refute _ (λ t. ⊎_elim (λ f. omega arith) g (tried_open t))

-- a larger base is tried where a smaller one is
pub tried-larger : (h : Head) (held size : ℕ) {b c : ℕ} → b ≤ c → tried h held size b ≡ true → tried h held size c ≡ true
tried-larger h held size {b} {c} l t =
    tried-shut h held size c
    (⊎_elim (λ f. inl (le_trans f l)) (λ s. inr (record {
      limited = s.limited;
      above-size = s.above-size;
      covers = le_trans s.covers l;
      below-default = s.below-default;
      nothing-held = s.nothing-held;
    })) (tried_open h held size b t))

-- n is within what a limit at or above the held bytes leaves, where there is such a limit
pub under-unlimited : (h : Head) (held n : ℕ) → (h.limited ≡ 1 → ⊥) → under_limit h held n ≡ true
unfolding under_limit
under-unlimited h held n g = or_left _ (false-not (ne_eqb h.limited 1 g))

pub under-passed : (h : Head) (held n : ℕ) → h.limited ≡ 1 → h.limit < held → under_limit h held n ≡ true
unfolding under_limit
under-passed h held n e l = rw e (or_left _ (lt-ltb h.limit held l))

pub under_left : (h : Head) (held n : ℕ) → h.limited ≡ 1 → held ≤ h.limit → under_limit h held n ≡ leb n (h.limit - held)
unfolding under_limit
under_left h held n e l = rw (e, le-ltb h.limit held l)

-- halving on never makes a base larger, and comes to 0
pub halved-less : (base : ℕ) {j k : ℕ} → j ≤ k → base_after base k ≤ base_after base j
halved-less base {j} {k} l =
    let further : base / 2 ^ j / 2 ^ (k - j) ≡ base / 2 ^ k = shr-shr base j (k - j) ∙ ap (λ (m : ℕ). base / 2 ^ m) (add-sub_of_le l) in
    rw (← further) (shr_le (base / 2 ^ j) (k - j))

pub halved-out : (base : ℕ) {k : ℕ} → base < 2 ^ 63 → 63 ≤ k → base_after base k ≡ 0
halved-out base h l = div-eq_of_lt (lt_of_lt_of_le h (pow_mono l))

-- what a rung gives: nothing past the limit or with the table full, else a chunk at the lowest place
module _ (h : Head) (cs : List Chunk) (size align base : ℕ) {held n : ℕ} (counted : held ≡ held_bytes cs) (sized : n ≡ usable base size align) where
  pub rung-over-limit : under_limit h held n ≡ false → rung_chunk h cs size align base ≡ None
  unfolding rung_chunk served_with
  rung-over-limit t = rw (← counted, ← sized, t)

  pub rung-table-full : places ≤ length cs → rung_chunk h cs size align base ≡ None
  unfolding rung_chunk served_with
  rung-table-full l = rw (le-ltb (length cs) places l, and-false (under_limit h (held_bytes cs) (usable base size align)))

  pub rung-placed : {a : ℕ} → a ≡ place_align align → under_limit h held n ≡ true → length cs < places →
      rung_chunk h cs size align base ≡ option_map (new_chunk n) (lowest_place h.region cs a n)
  unfolding rung_chunk served_with
  rung-placed e t l = rw (e, ← counted, ← sized, t, lt-ltb (length cs) places l)

-- a rung that is served, and the chunk that it gives
pub record ServedRung (h : Head) (cs : List Chunk) (size align : ℕ) (c : Chunk) : Type 0 where
  pub base : ℕ
  pub rung : Rung h cs size base
  pub gives : rung_chunk h cs size align base ≡ Some c

module _ (h : Head) (cs : List Chunk) (size align : ℕ) where
  -- what the ladder looks at after k halvings
  abbrev pub rung_after : ℕ → Option Chunk
  rung_after k =
      cond (tried h (held_bytes cs) size (base_after (first_base cs size) k))
      (rung_chunk h cs size align (base_after (first_base cs size) k))
      None

  pub rung-looked-at : {base : ℕ} (r : Rung h cs size base) → rung_after r.halvings ≡ rung_chunk h cs size align base
  rung-looked-at {base} r = rw (← r.from_first, r.is_tried)

  pub not-tried-nothing : (k : ℕ) → tried h (held_bytes cs) size (base_after (first_base cs size) k) ≡ false → rung_after k ≡ None
  not-tried-nothing k t = rw t

  -- the ladder gives nothing exactly where no rung is served
  pub no-rung-served : first_base cs size < 2 ^ 63 → ladder h cs size align ≡ None → (base : ℕ) → Rung h cs size base → rung_chunk h cs size align base ≡ None
  unfolding ladder
  no-rung-served small e base r = go (dec_lt r.halvings 64)
    where
      within : (s : Rung h cs size base) → s.halvings < 64 → rung_chunk h cs size align base ≡ None
      within s l = sym (rung-looked-at s) ∙ first-none 64 rung_after e s.halvings l

      go : Dec (r.halvings < 64) → rung_chunk h cs size align base ≡ None
      go (yes l) = within r l
      go (no g) =
          let far : 63 ≤ r.halvings = omega arith in
          let out : base ≡ 0 = r.from_first ∙ halved-out (first_base cs size) small far in
          within
          (record {
            halvings = 63;
            from_first = out ∙ sym (halved-out (first_base cs size) {k = 63} small (omega arith));
            is_tried = r.is_tried;
          })
          (omega arith)

  pub ladder-nothing : ((base : ℕ) → Rung h cs size base → rung_chunk h cs size align base ≡ None) → ladder h cs size align ≡ None
  unfolding ladder
  ladder-nothing refused = none_first 64 rung_after (λ k l. ⊎_elim (looked k) (not-tried-nothing k) (decided _))
    where
      looked : (k : ℕ) → tried h (held_bytes cs) size (base_after (first_base cs size) k) ≡ true → rung_after k ≡ None
      looked k t =
          let r : Rung h cs size (base_after (first_base cs size) k) = record { halvings = k; from_first = refl; is_tried = t } in
          rung-looked-at r ∙ refused _ r

  -- what it gives is the chunk of a rung that is served
  pub ladder-served : {c : Chunk} → ladder h cs size align ≡ Some c → ServedRung h cs size align c
  unfolding ladder
  ladder-served {c} e = ⊎_elim served (λ t. absurd (none-some c (sym (not-tried-nothing k t) ∙ found.here))) (decided _)
    where
      found : FirstAt 64 rung_after c
      found = first-at 64 rung_after e

      k : ℕ
      k = found.place

      served : tried h (held_bytes cs) size (base_after (first_base cs size) k) ≡ true → ServedRung h cs size align c
      served t =
          let r : Rung h cs size (base_after (first_base cs size) k) = record { halvings = k; from_first = refl; is_tried = t } in
          record { base = base_after (first_base cs size) k; rung = r; gives = sym (rung-looked-at r) ∙ found.here }

-- how far a climb has come: to this base, with nothing served before it
pub record Climbed (h : Head) (cs : List Chunk) (size align base : ℕ) : Type 0 where
  pub halvings : ℕ
  pub within : halvings < 64
  pub here : base ≡ base_after (first_base cs size) halvings
  pub before : (j : ℕ) → j < halvings → rung_after h cs size align j ≡ None

module _ (h : Head) (cs : List Chunk) (size align : ℕ) where
  pub climb-starts : Climbed h cs size align (first_base cs size)
  climb-starts =
      record { halvings = 0; within = omega arith; here = sym (div-one (first_base cs size)); before = λ j l. absurd (omega arith) }

  module _ {base : ℕ} (climbed : Climbed h cs size align base) where
    abbrev as-rung : tried h (held_bytes cs) size base ≡ true → Rung h cs size base
    as-rung t = record { halvings = climbed.halvings; from_first = climbed.here; is_tried = t }

    pub climb-bound : base ≤ first_base cs size
    climb-bound = rw climbed.here (shr_le (first_base cs size) climbed.halvings)

    pub climb-served : {c : Chunk} → tried h (held_bytes cs) size base ≡ true → rung_chunk h cs size align base ≡ Some c → ladder h cs size align ≡ Some c
    unfolding ladder
    climb-served t e =
        at_first 64 climbed.halvings (rung_after h cs size align) climbed.within (rung-looked-at h cs size align (as-rung t) ∙ e) climbed.before

    -- nothing here and nothing further down is nothing at all
    ends : ((j : ℕ) → climbed.halvings ≤ j → rung_after h cs size align j ≡ None) → ladder h cs size align ≡ None
    unfolding ladder
    ends further = none_first 64 (rung_after h cs size align) (λ j l. go j (dec_lt j climbed.halvings))
      where
        go : (j : ℕ) → Dec (j < climbed.halvings) → rung_after h cs size align j ≡ None
        go j (yes l) = climbed.before j l
        go j (no g) = further j (omega arith)

    further-down : (j : ℕ) → climbed.halvings ≤ j → base_after (first_base cs size) j ≤ base
    further-down j l = rw climbed.here (halved-less (first_base cs size) l)

    pub climb-out : tried h (held_bytes cs) size base ≡ false → ladder h cs size align ≡ None
    climb-out t =
        ends (λ j l. not-tried-nothing h cs size align j (refute _ (λ s. true-false (tried-larger h (held_bytes cs) size (further-down j l) s) t)))

    pub climb-ends : base ≡ 0 → tried h (held_bytes cs) size base ≡ true → rung_chunk h cs size align base ≡ None → ladder h cs size align ≡ None
    climb-ends zeroed t e =
        ends (λ j l.
        let same : base ≡ base_after (first_base cs size) j = omega (arith, further-down j l) in
        rung-looked-at h cs size align (record { halvings = j; from_first = same; is_tried = t }) ∙ e)

    pub climb-on : first_base cs size < 2 ^ 63 → (base ≡ 0 → ⊥) → tried h (held_bytes cs) size base ≡ true → rung_chunk h cs size align base ≡ None →
        Climbed h cs size align (base / 2)
    climb-on small some_left t e =
        let k = climbed.halvings in
        let half : base / 2 ≡ base_after (first_base cs size) (k + 1) = ap (λ (b : ℕ). b / 2) climbed.here ∙ shr-shr (first_base cs size) k 1 in
        let not_last : k ≡ 63 → ⊥ = λ q. some_left (climbed.here ∙ halved-out (first_base cs size) small (le_of_eq (sym q))) in
        record {
          halvings = k + 1;
          within = omega (arith, climbed.within, lt_of_le-ne {i = k} {k = 63} (omega (arith, climbed.within)) not_last);
          here = half;
          before = below_more (λ j. rung_after h cs size align j ≡ None) k climbed.before (rung-looked-at h cs size align (as-rung t) ∙ e);
        }
