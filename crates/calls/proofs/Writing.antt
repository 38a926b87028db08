-- What written and carried bytes read as, byte by byte. The reading of each byte settles a list (`written_is`, `carried-is`), so the other
-- laws follow by arithmetic on offsets. Assumes nothing.
use mathlib.Core.Path.{◌≡◌, refl, sym, ap, ◌∙◌}
use mathlib.Core.List.{List, [], ◌++◌, append_assoc}
use Prim.Native.Nat.{ℕ, ◌+◌, ◌-◌, ◌≤◌, ◌<◌}
use native.Mathlib.Nat.{add-zero}
use native.Mathlib.Omega.{arith}
use native.Mathlib.Decide.{dec_le, dec_lt}
use lib.ListN.{length, get_or, take, drop, length-append, length-take, length-drop, take-append-drop, get_or-append}
use lib.Seq.{length-take-le, take-append_seam, drop_at, drop-drop, get_or-append-add, get_or-take, get_or-drop, ext_get_or}
use Rattle.std.specs.List.{copy_within}
use Rattle.calls.specs.Bytes.{written, part, carried}

pub length_part : (bytes : List ℕ) (at n : ℕ) → at + n ≤ length bytes → length (part bytes at n) ≡ n
length_part bytes at n h = simp (length-take, length-drop) (omega arith)

pub get_d_part : (bytes : List ℕ) (at n x : ℕ) → x < n → get_or (part bytes at n) x 0 ≡ get_or bytes (at + x) 0
get_d_part bytes at n x h = get_or-take n (drop at bytes) x 0 h ∙ get_or-drop at bytes x 0

get_d_past : (front rest : List ℕ) (at x : ℕ) → length front ≡ at → at ≤ x → get_or (front ++ rest) x 0 ≡ get_or rest (x - at) 0
get_d_past front rest at x e h =
    let place : x ≡ length front + (x - at) = omega arith in
    ap (λ (k : ℕ). get_or (front ++ rest) k 0) place ∙ get_or-append-add front rest (x - at) 0

-- a part that is lent comes back in its place
pub written_back : (bytes : List ℕ) (at n : ℕ) (new last : List ℕ) → last ≡ new → length new ≡ n
    → take at bytes ++ (last ++ drop n (drop at bytes)) ≡ written bytes at new
unfolding written
written_back bytes at n new last e size = rw (e, drop-drop, size)

pub written-nothing : (bytes : List ℕ) (at : ℕ) → written bytes at [] ≡ bytes
unfolding written
written-nothing bytes at = rw (add-zero, take-append-drop)

module _ (bytes : List ℕ) (at : ℕ) (new : List ℕ) (room : at + length new ≤ length bytes) where
  front : length (take at bytes) ≡ at
  front = length-take-le at bytes (omega arith)

  pub length-written : length (written bytes at new) ≡ length bytes
  unfolding written
  length-written = simp (length-append, length-take, length-drop) (omega arith)

  pub written-within : (x : ℕ) → at ≤ x → x < at + length new → get_or (written bytes at new) x 0 ≡ get_or new (x - at) 0
  unfolding written
  written-within x low high =
      get_d_past (take at bytes) (new ++ drop (at + length new) bytes) at x front low
      ∙ get_or-append new (drop (at + length new) bytes) 0 (x - at) (omega arith)

  pub written-elsewhere : (x : ℕ) → (at ≤ x → x < at + length new → ⊥) → get_or (written bytes at new) x 0 ≡ get_or bytes x 0
  unfolding written
  written-elsewhere x apart = go (dec_lt x at)
    where
      rest : List ℕ
      rest = drop (at + length new) bytes

      go : Dec (x < at) → get_or (take at bytes ++ (new ++ rest)) x 0 ≡ get_or bytes x 0
      go (yes h) = get_or-append (take at bytes) (new ++ rest) 0 x (omega (arith, front)) ∙ get_or-take at bytes x 0 h
      go (no h) =
          let after : at + length new ≤ x = omega (arith, apart (omega arith)) in
          get_d_past (take at bytes) (new ++ rest) at x front (omega arith)
          ∙ get_d_past new rest (length new) (x - at) refl (omega arith)
          ∙ get_or-drop (at + length new) bytes (x - at - length new) 0
          ∙ ap (λ (k : ℕ). get_or bytes k 0) (omega arith)

  -- a list that reads so is the written one
  pub written_is : (l : List ℕ) → length l ≡ length bytes
      → ((x : ℕ) → at ≤ x → x < at + length new → get_or l x 0 ≡ get_or new (x - at) 0)
      → ((x : ℕ) → (at ≤ x → x < at + length new → ⊥) → get_or l x 0 ≡ get_or bytes x 0)
      → l ≡ written bytes at new
  written_is l e within elsewhere =
      ext_get_or 0 l (written bytes at new) (e ∙ sym length-written) (λ x below. go x (dec_le at x) (dec_lt x (at + length new)))
    where
      go : (x : ℕ) → Dec (at ≤ x) → Dec (x < at + length new) → get_or l x 0 ≡ get_or (written bytes at new) x 0
      go x (yes low) (yes high) = within x low high ∙ sym (written-within x low high)
      go x (yes low) (no past) = elsewhere x (λ l h. past h) ∙ sym (written-elsewhere x (λ l h. past h))
      go x (no before) high = elsewhere x (λ l h. before l) ∙ sym (written-elsewhere x (λ l h. before l))

  pub part-written-same : part (written bytes at new) at (length new) ≡ new
  unfolding written
  part-written-same =
      ap (take (length new)) (drop_at (take at bytes) (new ++ drop (at + length new) bytes) at front)
      ∙ take-append_seam new (drop (at + length new) bytes)

  -- a part that shares no byte with what was written
  pub part-written-apart : (start n : ℕ) → ((x : ℕ) → start ≤ x → x < start + n → at ≤ x → x < at + length new → ⊥)
      → part (written bytes at new) start n ≡ part bytes start n
  part-written-apart start n apart =
      ext_get_or 0 (part (written bytes at new) start n) (part bytes start n) (simp (length-take, length-drop, length-written))
      (λ x h. same x (omega (arith, length-take n (drop start (written bytes at new)))))
    where
      same : (x : ℕ) → x < n → get_or (part (written bytes at new) start n) x 0 ≡ get_or (part bytes start n) x 0
      same x h =
          get_d_part (written bytes at new) start n x h
          ∙ written-elsewhere (start + x) (apart (start + x) (omega arith) (omega arith))
          ∙ sym (get_d_part bytes start n x h)

pub carried-nothing : (bytes : List ℕ) (from to : ℕ) → carried bytes from to 0 ≡ bytes
unfolding carried
carried-nothing bytes from to = written-nothing bytes to

module _ (bytes : List ℕ) (from to n : ℕ) (source : from + n ≤ length bytes) (room : to + n ≤ length bytes) where
  size : length (part bytes from n) ≡ n
  size = length_part bytes from n source

  fits : to + length (part bytes from n) ≤ length bytes
  fits = rw size room

  pub length-carried : length (carried bytes from to n) ≡ length bytes
  unfolding carried
  length-carried = length-written bytes to (part bytes from n) fits

  pub carried-within : (x : ℕ) → to ≤ x → x < to + n → get_or (carried bytes from to n) x 0 ≡ get_or bytes (from + (x - to)) 0
  unfolding carried
  carried-within x low high =
      written-within bytes to (part bytes from n) fits x low (rw size high) ∙ get_d_part bytes from n (x - to) (omega arith)

  pub carried-elsewhere : (x : ℕ) → (to ≤ x → x < to + n → ⊥) → get_or (carried bytes from to n) x 0 ≡ get_or bytes x 0
  unfolding carried
  carried-elsewhere x apart = written-elsewhere bytes to (part bytes from n) fits x (rw size apart)

  pub carried-is : (l : List ℕ) → length l ≡ length bytes
      → ((x : ℕ) → to ≤ x → x < to + n → get_or l x 0 ≡ get_or bytes (from + (x - to)) 0)
      → ((x : ℕ) → (to ≤ x → x < to + n → ⊥) → get_or l x 0 ≡ get_or bytes x 0)
      → l ≡ carried bytes from to n
  unfolding carried
  carried-is l e within elsewhere =
      written_is bytes to (part bytes from n) fits l e
      (rw size (λ x low high. within x low high ∙ sym (get_d_part bytes from n (x - to) (omega arith))))
      (rw size elsewhere)

  -- the carried bytes stand at the new place
  pub part-carried-same : part (carried bytes from to n) to n ≡ part bytes from n
  unfolding carried
  part-carried-same = rw size at (part-written-same bytes to (part bytes from n) fits)

  pub part-carried-apart : (start k : ℕ) → ((x : ℕ) → start ≤ x → x < start + k → to ≤ x → x < to + n → ⊥)
      → part (carried bytes from to n) start k ≡ part bytes start k
  unfolding carried
  part-carried-apart start k apart = part-written-apart bytes to (part bytes from n) fits start k (rw size apart)

pub carried-stays : (bytes : List ℕ) (at n : ℕ) → at + n ≤ length bytes → carried bytes at at n ≡ bytes
carried-stays bytes at n h =
    sym (carried-is bytes at at n h h bytes refl (λ x low high. ap (λ (k : ℕ). get_or bytes k 0) (omega arith)) (λ x apart. refl))

module _ (bytes : List ℕ) (from to i k : ℕ) (source : from + (i + k) ≤ length bytes) (room : to + (i + k) ≤ length bytes) where
  -- downwards the first i bytes may go before the k after them
  pub carried_first : to ≤ from → carried (carried bytes from to i) (from + i) (to + i) k ≡ carried bytes from to (i + k)
  carried_first down =
      carried-is bytes from to (i + k) source room (carried first (from + i) (to + i) k)
      (length-carried first (from + i) (to + i) k source' room' ∙ same)
      (λ x low high. go x low high (dec_lt x (to + i)))
      (λ x apart.
      carried-elsewhere first (from + i) (to + i) k source' room' x (λ l h. apart (omega arith) (omega arith))
      ∙ carried-elsewhere bytes from to i (omega arith) (omega arith) x (λ l h. apart l (omega arith)))
    where
      first : List ℕ
      first = carried bytes from to i

      same : length first ≡ length bytes
      same = length-carried bytes from to i (omega arith) (omega arith)

      source' : from + i + k ≤ length first
      source' = omega (arith, same)

      room' : to + i + k ≤ length first
      room' = omega (arith, same)

      go : (x : ℕ) → to ≤ x → x < to + (i + k) → Dec (x < to + i)
          → get_or (carried first (from + i) (to + i) k) x 0 ≡ get_or bytes (from + (x - to)) 0
      go x low high (yes early) =
          carried-elsewhere first (from + i) (to + i) k source' room' x (omega arith)
          ∙ carried-within bytes from to i (omega arith) (omega arith) x low early
      go x low high (no late) =
          carried-within first (from + i) (to + i) k source' room' x (omega arith) (omega arith)
          ∙ carried-elsewhere bytes from to i (omega arith) (omega arith) (from + i + (x - (to + i))) (omega arith)
          ∙ ap (λ (k : ℕ). get_or bytes k 0) (omega arith)

  -- upwards the last k bytes may go before the i in front of them
  pub carried-last : from ≤ to → carried (carried bytes (from + i) (to + i) k) from to i ≡ carried bytes from to (i + k)
  carried-last up =
      carried-is bytes from to (i + k) source room (carried last from to i)
      (length-carried last from to i source' room' ∙ same)
      (λ x low high. go x low high (dec_lt x (to + i)))
      (λ x apart.
      carried-elsewhere last from to i source' room' x (λ l h. apart l (omega arith))
      ∙ carried-elsewhere bytes (from + i) (to + i) k (omega arith) (omega arith) x (λ l h. apart (omega arith) (omega arith)))
    where
      last : List ℕ
      last = carried bytes (from + i) (to + i) k

      same : length last ≡ length bytes
      same = length-carried bytes (from + i) (to + i) k (omega arith) (omega arith)

      source' : from + i ≤ length last
      source' = omega (arith, same)

      room' : to + i ≤ length last
      room' = omega (arith, same)

      go : (x : ℕ) → to ≤ x → x < to + (i + k) → Dec (x < to + i)
          → get_or (carried last from to i) x 0 ≡ get_or bytes (from + (x - to)) 0
      go x low high (yes early) =
          carried-within last from to i source' room' x low early
          ∙ carried-elsewhere bytes (from + i) (to + i) k (omega arith) (omega arith) (from + (x - to)) (omega arith)
      go x low high (no late) =
          carried-elsewhere last from to i source' room' x (omega arith)
          ∙ carried-within bytes (from + i) (to + i) k (omega arith) (omega arith) x (omega arith) (omega arith)
          ∙ ap (λ (k : ℕ). get_or bytes k 0) (omega arith)

-- what the library moves within a list is carried
pub moved-carried : (bytes : List ℕ) (from to n : ℕ) → from + n ≤ length bytes → copy_within bytes from (from + n) to ≡ carried bytes from to n
unfolding carried written
moved-carried bytes from to n h =
    let long = length_part bytes from n h in
    let same : from + n - from ≡ n = omega arith in
    rw (same, long) (append_assoc (take to bytes) (part bytes from n) (drop (to + n) bytes))

-- to read a block whole and then to write it is to carry it
pub carried-block : (bytes : List ℕ) (from to k : ℕ) {block after : List ℕ} → block ≡ part bytes from k → after ≡ written bytes to block
    → after ≡ carried bytes from to k
unfolding carried
carried-block bytes from to k read stored = stored ∙ ap (written bytes to) read
