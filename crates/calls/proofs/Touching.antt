-- Which bytes a call touches: those of one part of the region, and no other. Assumes nothing.
use Prim.Native.Nat.{ℕ, ◌+◌, ◌-◌, ◌≤◌, ◌<◌}
use native.Mathlib.Omega.{arith}
use mathlib.Core.List.{List}
use mathlib.Core.Path.{◌≡◌, refl, ap, ◌∙◌}
use lib.ListN.{length, get_or, replicate, length-replicate, get_or-replicate}
use Rattle.calls.specs.Bytes.{written, carried}
use Rattle.calls.proofs.Writing.{length-written, written-within, written-elsewhere, length-carried, carried-within, carried-elsewhere}

-- of the region's bytes only those from low up to high change
pub record OnlyIn (bytes after : List ℕ) (low high : ℕ) : Type 0 where
  pub same_length : length after ≡ length bytes
  pub elsewhere : (x : ℕ) → (low ≤ x → x < high → ⊥) → get_or after x 0 ≡ get_or bytes x 0

pub only_none : (bytes : List ℕ) (low high : ℕ) → OnlyIn bytes bytes low high
only_none bytes low high = record { same_length = refl; elsewhere = λ x h. refl }

pub only_then : {bytes between after : List ℕ} {low high : ℕ} → OnlyIn bytes between low high → OnlyIn between after low high → OnlyIn bytes after low high
only_then f g = record { same_length = g.same_length ∙ f.same_length; elsewhere = λ x h. g.elsewhere x h ∙ f.elsewhere x h }

pub only-written : (bytes : List ℕ) (at : ℕ) (new : List ℕ) {low high : ℕ} → at + length new ≤ length bytes → low ≤ at → at + length new ≤ high →
    OnlyIn bytes (written bytes at new) low high
only-written bytes at new room l h =
    record {
      same_length = length-written bytes at new room;
      elsewhere = λ x out. written-elsewhere bytes at new room x (λ a b. out (omega arith) (omega arith));
    }

pub only-carried : (bytes : List ℕ) (from to n : ℕ) {low high : ℕ} → from + n ≤ length bytes → to + n ≤ length bytes → low ≤ to → to + n ≤ high →
    OnlyIn bytes (carried bytes from to n) low high
only-carried bytes from to n source room l h =
    record {
      same_length = length-carried bytes from to n source room;
      elsewhere = λ x out. carried-elsewhere bytes from to n source room x (λ a b. out (omega arith) (omega arith));
    }

-- the bytes at the new place, once they are carried
pub carried-reads : (bytes : List ℕ) (from to n : ℕ) → from + n ≤ length bytes → to + n ≤ length bytes → (i : ℕ) → i < n →
    get_or (carried bytes from to n) (to + i) 0 ≡ get_or bytes (from + i) 0
carried-reads bytes from to n source room i l =
    let place : from + (to + i - to) ≡ from + i = omega arith in
    carried-within bytes from to n source room (to + i) (omega arith) (omega arith) ∙ ap (λ (k : ℕ). get_or bytes k 0) place

-- the bytes that are written
pub written-reads : (bytes : List ℕ) (at : ℕ) (new : List ℕ) → at + length new ≤ length bytes → (i : ℕ) → i < length new →
    get_or (written bytes at new) (at + i) 0 ≡ get_or new i 0
written-reads bytes at new room i l =
    let place : at + i - at ≡ i = omega arith in
    written-within bytes at new room (at + i) (omega arith) (omega arith) ∙ ap (λ (k : ℕ). get_or new k 0) place

-- and the bytes that are cleared
pub cleared-reads : (bytes : List ℕ) (at n : ℕ) → at + n ≤ length bytes → (x : ℕ) → at ≤ x → x < at + n → get_or (written bytes at (replicate n 0)) x 0 ≡ 0
cleared-reads bytes at n room x l h =
    let long = length-replicate {A = ℕ} n 0 in
    written-within bytes at (replicate n 0) (omega arith) x l (omega arith) ∙ get_or-replicate n (x - at) 0 0 (omega arith)
