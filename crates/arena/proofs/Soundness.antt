-- What a sound record is, in facts beside the tests of `specs/Sound.antt`: each test opens into its facts, and the facts shut into the test.
-- Assumes nothing.
use Prim.Native.Nat.{ℕ, zero, suc, ◌+◌, ◌-◌, ◌≤◌, ◌<◌, ◌∣◌}
use native.Mathlib.Nat.{add-sub_of_le}
use native.Mathlib.Omega.{arith}
use mathlib.Core.Bool.{true, ◌&&◌}
use mathlib.Core.List.{List, [], ◌∷◌}
use mathlib.Core.Logic.{◌⊎◌, inl, inr}
use mathlib.Core.Path.{◌≡◌, refl, sym, ◌∙◌, ap}
use lib.Dec.{leb, eqb}
use lib.ListN.{length, get_or, drop, replicate, length-drop, length-replicate}
use lib.Seq.{get_or-drop, ext_get_or}
use borrow.Author.Tests.{leb-true, le-leb, eqb-true, eq-eqb}
use Rattle.rounding.specs.Every.{every, Each}
use Rattle.rounding.specs.Round.{multiple, one_bit}
use Rattle.rounding.proofs.Tests.{and_left, and_right, and_both, or_left, or_right, or_cases}
use Rattle.rounding.proofs.Powers.{Power, one-bit-power, power-one-bit}
use Rattle.rounding.proofs.Rounding.{multiple-dvd, dvd-multiple}
use Rattle.arena.specs.declared.Head.{Head}
use Rattle.arena.specs.declared.Arena.{Arena}
use Rattle.arena.specs.declared.Chunk.{Chunk}
use Rattle.arena.specs.Numbers.{step, places, most, largest_align, largest_minimum}
use Rattle.arena.specs.Record.{end_of, past_of, held_of}
use Rattle.arena.specs.Sound.{allowed_align, allowed_minimum, limit_formed, head_sound, chunk_sound, clear, apart, unused_zero, table_sound, sound_of}
use Rattle.arena.specs.declared.lent.Lent.{Lent}
use Rattle.arena.specs.declared.lent.Inside.{Inside}
use Rattle.arena.specs.Inner.{Ready, is_ready, ascending, lent_of}
use Rattle.rounding.proofs.Every.{every-open, every-shut, every_map}

-- a power of two that is at most `top`
pub record PowerUpTo (top n : ℕ) : Type 0 where
  pub power : Power n
  pub bound : n ≤ top

abbrev pub AllowedAlign : ℕ → Type 0
AllowedAlign = PowerUpTo largest_align

abbrev pub AllowedMinimum : ℕ → Type 0
AllowedMinimum = PowerUpTo largest_minimum

power-open : (top n : ℕ) → (one_bit n && leb n top) ≡ true → PowerUpTo top n
power-open top n t =
    record { power = one-bit-power n (and_left _ _ t); bound = leb-true n top (and_right (one_bit n) _ t) }

power-shut : (top : ℕ) {n : ℕ} → PowerUpTo top n → (one_bit n && leb n top) ≡ true
power-shut top {n} h = and_both (power-one-bit h.power) (le-leb n top h.bound)

pub align-open : (a : ℕ) → allowed_align a ≡ true → AllowedAlign a
unfolding allowed_align
align-open a t = power-open largest_align a t

pub align-shut : {a : ℕ} → AllowedAlign a → allowed_align a ≡ true
unfolding allowed_align
align-shut h = power-shut largest_align h

pub minimum-open : (m : ℕ) → allowed_minimum m ≡ true → AllowedMinimum m
unfolding allowed_minimum
minimum-open m t = power-open largest_minimum m t

pub minimum-shut : {m : ℕ} → AllowedMinimum m → allowed_minimum m ≡ true
unfolding allowed_minimum
minimum-shut h = power-shut largest_minimum h

pub record HeadSound (h : Head) : Type 0 where
  pub minimum-power : Power h.minimum
  pub minimum-bound : h.minimum ≤ largest_minimum
  pub region_bound : h.region ≤ most
  pub limit-formed : limit_formed h ≡ true
  pub count_bound : h.count ≤ places

-- the same but for the count: a region length, a minimum and a limit that a record may have
pub record Settings (h : Head) : Type 0 where
  pub minimum-power : Power h.minimum
  pub minimum-bound : h.minimum ≤ largest_minimum
  pub region_bound : h.region ≤ most
  pub limit-formed : limit_formed h ≡ true

pub settings : {h : Head} → HeadSound h → Settings h
settings s =
    record {
      minimum-power = s.minimum-power;
      minimum-bound = s.minimum-bound;
      region_bound = s.region_bound;
      limit-formed = s.limit-formed;
    }

pub head-open : (h : Head) → head_sound h ≡ true → HeadSound h
unfolding head_sound
head-open h t =
    let minimum = minimum-open h.minimum (and_left _ _ t) in
    let t₁ = and_right (allowed_minimum h.minimum) _ t in
    let t₂ = and_right (leb h.region most) _ t₁ in
    record {
      minimum-power = minimum.power;
      minimum-bound = minimum.bound;
      region_bound = leb-true h.region most (and_left _ _ t₁);
      limit-formed = and_left _ _ t₂;
      count_bound = leb-true h.count places (and_right (limit_formed h) _ t₂);
    }

pub head-shut : {h : Head} → HeadSound h → head_sound h ≡ true
unfolding head_sound
head-shut {h} s =
    and_both (minimum-shut (record { power = s.minimum-power; bound = s.minimum-bound }))
    (and_both (le-leb h.region most s.region_bound)
    (and_both s.limit-formed (le-leb h.count places s.count_bound)))

pub record ChunkSound (region minimum : ℕ) (c : Chunk) : Type 0 where
  pub start-multiple : step ∣ c.start
  pub size-multiple : step ∣ c.size
  pub inside : past_of c ≤ region
  pub above-start : c.start ≤ c.pointer
  pub below_end : c.pointer ≤ end_of c
  pub pointer-multiple : minimum ∣ c.pointer

pub chunk-open : (region minimum : ℕ) (c : Chunk) → chunk_sound region minimum c ≡ true → ChunkSound region minimum c
unfolding chunk_sound
chunk-open region minimum c t =
    let t₁ = and_right (multiple step c.start) _ t in
    let t₂ = and_right (multiple step c.size) _ t₁ in
    let t₃ = and_right (leb (past_of c) region) _ t₂ in
    let t₄ = and_right (leb c.start c.pointer) _ t₃ in
    record {
      start-multiple = multiple-dvd step c.start (and_left _ _ t);
      size-multiple = multiple-dvd step c.size (and_left _ _ t₁);
      inside = leb-true (past_of c) region (and_left _ _ t₂);
      above-start = leb-true c.start c.pointer (and_left _ _ t₃);
      below_end = leb-true c.pointer (end_of c) (and_left _ _ t₄);
      pointer-multiple = multiple-dvd minimum c.pointer (and_right (leb c.pointer (end_of c)) _ t₄);
    }

pub chunk-shut : {region minimum : ℕ} {c : Chunk} → ChunkSound region minimum c → chunk_sound region minimum c ≡ true
unfolding chunk_sound
chunk-shut {region} {minimum} {c} s =
    and_both (dvd-multiple step s.start-multiple)
    (and_both (dvd-multiple step s.size-multiple)
    (and_both (le-leb (past_of c) region s.inside)
    (and_both (le-leb c.start c.pointer s.above-start)
    (and_both (le-leb c.pointer (end_of c) s.below_end) (dvd-multiple minimum s.pointer-multiple)))))

-- the n + 48 bytes of one chunk end where those of the other start, or before
abbrev pub Clear : Chunk → Chunk → Type 0
Clear c d = (past_of c ≤ d.start) ⊎ (past_of d ≤ c.start)

pub clear-open : (c d : Chunk) → clear c d ≡ true → Clear c d
unfolding clear
clear-open c d t = go (or_cases (leb (past_of c) d.start) _ t)
  where
    go : (leb (past_of c) d.start ≡ true) ⊎ (leb (past_of d) c.start ≡ true) → Clear c d
    go (inl h) = inl (leb-true (past_of c) d.start h)
    go (inr h) = inr (leb-true (past_of d) c.start h)

pub clear-shut : (c d : Chunk) → Clear c d → clear c d ≡ true
unfolding clear
clear-shut c d (inl h) = or_left _ (le-leb (past_of c) d.start h)
clear-shut c d (inr h) = or_right (leb (past_of c) d.start) (le-leb (past_of d) c.start h)

abbrev pub Apart : List Chunk → Type 0
Apart [] = Unit {0}
Apart (c ∷ cs) = Each (Clear c) cs × Apart cs

pub apart-open : (cs : List Chunk) → apart cs ≡ true → Apart cs
unfolding apart
apart-open [] t = tt
apart-open (c ∷ cs) t =
    (every_map (clear-open c) cs (every-open (clear c) cs (and_left _ _ t)), apart-open cs (and_right (every (clear c) cs) _ t))

pub apart-shut : (cs : List Chunk) → Apart cs → apart cs ≡ true
unfolding apart
apart-shut [] h = refl
apart-shut (c ∷ cs) h = and_both (every-shut (clear c) cs (every_map (clear-shut c) cs h.0)) (apart-shut cs h.1)

-- chunks that ascend are sound below any top that is as high, and apart: all that were taken before end at or below the start of the next
pub ascending-sound : (region top minimum : ℕ) (cs : List Chunk) → top ≤ region → ascending top minimum cs ≡ true → Each (ChunkSound region minimum) cs
unfolding ascending
ascending-sound region top minimum [] l t = tt
ascending-sound region top minimum (c ∷ cs) l t =
    let this = chunk-open top minimum c (and_left _ _ t) in
    let rest = and_right (chunk_sound top minimum c) _ t in (
      record {
        start-multiple = this.start-multiple;
        size-multiple = this.size-multiple;
        inside = omega (arith, this.inside);
        above-start = this.above-start;
        below_end = this.below_end;
        pointer-multiple = this.pointer-multiple;
      },
      ascending-sound region c.start minimum cs (omega (arith, this.inside)) rest,
    )

pub ascending-apart : (top minimum : ℕ) (cs : List Chunk) → ascending top minimum cs ≡ true → Apart cs
unfolding ascending
ascending-apart top minimum [] t = tt
ascending-apart top minimum (c ∷ cs) t =
    let rest = and_right (chunk_sound top minimum c) _ t in
    (every_map (λ d s. inr s.inside) cs (ascending-sound c.start c.start minimum cs (omega arith) rest), ascending-apart c.start minimum cs rest)

-- a column's places from the count on are zero
pub record Unused (count : ℕ) (column : List ℕ) : Type 0 where
  pub long : length column ≡ places
  pub zeros : drop count column ≡ replicate (places - count) 0

zeros-open : (xs : List ℕ) → every (λ x. eqb x 0) xs ≡ true → xs ≡ replicate (length xs) 0
unfolding every
zeros-open [] t = refl
zeros-open (x ∷ xs) t =
    let here = eqb-true x 0 (and_left _ _ t) in
    let rest = zeros-open xs (and_right (eqb x 0) _ t) in
    cc

zeros-shut : (n : ℕ) → every (λ x. eqb x 0) (replicate n 0) ≡ true
unfolding every
zeros-shut zero = refl
zeros-shut (suc n) = zeros-shut n

pub zeros-at : (n i : ℕ) → get_or {A = ℕ} (replicate n 0) i 0 ≡ 0
zeros-at zero i = refl
zeros-at (suc n) zero = refl
zeros-at (suc n) (suc i) = zeros-at n i

module _ (count : ℕ) (column : List ℕ) where
  long_rest : length column ≡ places → length (drop count column) ≡ places - count
  long_rest h = length-drop count column ∙ ap (λ (n : ℕ). n - count) h

  pub unused-open : unused_zero count column ≡ true → Unused count column
  unfolding unused_zero
  unused-open t =
      let whole = eqb-true (length column) places (and_left _ _ t) in
      let rest = zeros-open (drop count column) (and_right (eqb (length column) places) _ t) in
      record { long = whole; zeros = rest ∙ ap (λ (n : ℕ). replicate n 0) (long_rest whole) }

  pub unused-shut : Unused count column → unused_zero count column ≡ true
  unfolding unused_zero
  unused-shut h = and_both (eq-eqb (length column) places h.long) (rw h.zeros (zeros-shut (places - count)))

  -- the same, place by place
  pub unused-at : Unused count column → (k : ℕ) → count ≤ k → get_or column k 0 ≡ 0
  unused-at h k l =
      ap (λ (i : ℕ). get_or column i 0) (sym (add-sub_of_le l))
      ∙ sym (get_or-drop count column (k - count) 0)
      ∙ ap (λ (xs : List ℕ). get_or xs (k - count) 0) h.zeros
      ∙ zeros-at (places - count) (k - count)

  pub unused-by : length column ≡ places → ((k : ℕ) → k < places → count ≤ k → get_or column k 0 ≡ 0) → Unused count column
  unused-by long at =
      let rest = long_rest long in
      record {
        long = long;
        zeros =
            ext_get_or 0 (drop count column) (replicate (places - count) 0) (rest ∙ sym (length-replicate (places - count) 0))
            (λ i l. get_or-drop count column i 0 ∙ at (count + i) (omega arith) (omega arith) ∙ sym (zeros-at (places - count) i));
      }

pub record Sound (a : Arena) : Type 0 where
  pub head : HeadSound a.head
  pub starts-unused : Unused a.head.count a.starts
  pub sizes-unused : Unused a.head.count a.sizes
  pub pointers-unused : Unused a.head.count a.pointers
  pub chunks : Each (ChunkSound a.head.region a.head.minimum) (held_of a)
  pub apart : Apart (held_of a)

pub sound-open : (a : Arena) → sound_of a ≡ true → Sound a
unfolding sound_of table_sound
sound-open a t =
    let count = a.head.count in
    let test = chunk_sound a.head.region a.head.minimum in
    let t₁ = and_right (head_sound a.head) _ t in
    let table = and_left (table_sound a) _ t₁ in
    let columns = and_right (unused_zero count a.starts) _ table in
    let t₂ = and_right (table_sound a) _ t₁ in
    record {
      head = head-open a.head (and_left _ _ t);
      starts-unused = unused-open count a.starts (and_left _ _ table);
      sizes-unused = unused-open count a.sizes (and_left _ _ columns);
      pointers-unused = unused-open count a.pointers (and_right (unused_zero count a.sizes) _ columns);
      chunks = every_map (chunk-open a.head.region a.head.minimum) (held_of a) (every-open test (held_of a) (and_left _ _ t₂));
      apart = apart-open (held_of a) (and_right (every test (held_of a)) _ t₂);
    }

pub sound-shut : {a : Arena} → Sound a → sound_of a ≡ true
unfolding sound_of table_sound
sound-shut {a} s =
    let count = a.head.count in
    let test = chunk_sound a.head.region a.head.minimum in
    and_both (head-shut s.head)
    (and_both
    (and_both (unused-shut count a.starts s.starts-unused)
    (and_both (unused-shut count a.sizes s.sizes-unused) (unused-shut count a.pointers s.pointers-unused)))
    (and_both (every-shut test (held_of a) (every_map (λ c. chunk-shut) (held_of a) s.chunks)) (apart-shut (held_of a) s.apart)))

pub sound-ready : {a : Arena} → Sound a → Ready a.head (held_of a)
sound-ready {a} s =
    record {
      region_bound = s.head.region_bound;
      count_bound = s.head.count_bound;
      inside = every_map (λ c h. h.inside) (held_of a) s.chunks;
    }

-- a lent record that is known to be sound is ready for the ladder and for placing
pub lent-ready : (l : Lent) → sound_of (lent_of l) ≡ true → Ready l.head (held_of (lent_of l))
lent-ready l t = sound-ready (sound-open (lent_of l) t)

pub ready-open : (h : Head) (cs : List Chunk) → is_ready h cs ≡ true → Ready h cs
unfolding is_ready
ready-open h cs t =
    let rest = and_right (leb h.region most) _ t in
    record {
      region_bound = leb-true h.region most (and_left _ _ t);
      count_bound = leb-true h.count places (and_left _ _ rest);
      inside = every_map (λ c l. leb-true (past_of c) h.region l) cs (every-open (λ c. leb (past_of c) h.region) cs (and_right (leb h.count places) _ rest));
    }

pub ready-shut : {h : Head} {cs : List Chunk} → Ready h cs → is_ready h cs ≡ true
unfolding is_ready
ready-shut {h} {cs} r =
    and_both (le-leb h.region most r.region_bound)
    (and_both (le-leb h.count places r.count_bound)
    (every-shut (λ c. leb (past_of c) h.region) cs (every_map (λ c l. le-leb (past_of c) h.region l) cs r.inside)))

pub inside-ready : (i : Inside) → Ready i.lent.head (held_of (lent_of i.lent))
inside-ready i = ready-open i.lent.head (held_of (lent_of i.lent)) i.ready
