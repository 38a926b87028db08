-- A front that a whole record gives stays as more bytes follow, and the bytes before it was whole are fewer than the record takes: a record is
-- looked at by its own bytes alone. Assumes nothing.
use Prim.Native.Nat.{ℕ, ◌+◌, ◌≤◌, ◌<◌}
use native.Mathlib.Omega.{arith}
use mathlib.Core.Bool.{Bool, true, false, cond}
use mathlib.Core.List.{List, [], ◌∷◌, ◌++◌}
use Rattle.std.specs.Prelude.{Option, None, Some}
use mathlib.Core.Path.{◌≡◌, refl, sym, ◌∙◌}
use lib.Dec.{leb}
use lib.ListN.{length, take, drop, length-append, take-append-drop}
use lib.Seq.{take-append-le, length-take-le}
use borrow.Author.Tests.{le-leb, lt-leb, leb-true, leb-false}
use Rattle.requests.specs.Bytes.{then_byte, byte_at}
use Rattle.requests.specs.Request.{Request, request_of}
use Rattle.requests.specs.Front.{part, whole, unfinished, record_front, front_of}

-- a whole record settles the front
record-settles : (n : ℕ) (o : Option Request) → unfinished (record_front n o) ≡ false
unfolding record_front
record-settles n None = refl
record-settles n (Some r) = refl

record-size : (n : ℕ) (o : Option Request) {size : ℕ} {r : Request} → record_front n o ≡ whole size r → size ≡ 2 + n
unfolding record_front
record-size n None e = cc
record-size n (Some x) e = cc

-- a record takes its length number and the bytes after it, which are there
sized : (high low : ℕ) (rest : List ℕ) {size : ℕ} {r : Request} → front_of (high ∷ (low ∷ rest)) ≡ whole size r →
    (size ≡ 2 + then_byte high low) × (then_byte high low ≤ length rest)
unfolding front_of
sized high low rest {size} {r} = go (leb (then_byte high low) (length rest)) refl
  where
    go : (b : Bool) → leb (then_byte high low) (length rest) ≡ b →
        cond b (record_front (then_byte high low) (request_of (take (then_byte high low) rest))) part ≡ whole size r →
        (size ≡ 2 + then_byte high low) × (then_byte high low ≤ length rest)
    go true t e = (record-size (then_byte high low) (request_of (take (then_byte high low) rest)) e, leb-true (then_byte high low) (length rest) t)
    go false t e = let z : ◌≡◌ {A = ℕ} 0 1 = cc in absurd (omega arith)

pub whole-size : (p : List ℕ) {size : ℕ} {r : Request} → front_of p ≡ whole size r → (2 ≤ size) × (size ≤ length p)
unfolding front_of
whole-size [] e = let z : ◌≡◌ {A = ℕ} 0 1 = cc in absurd (omega arith)
whole-size (high ∷ []) e = let z : ◌≡◌ {A = ℕ} 0 1 = cc in absurd (omega arith)
whole-size (high ∷ (low ∷ rest)) e = let s = sized high low rest e in (omega arith, omega arith)

pub front-stays : (p q : List ℕ) → unfinished (front_of p) ≡ false → front_of (p ++ q) ≡ front_of p
unfolding front_of
front-stays [] q u = cc
front-stays (high ∷ []) q u = cc
front-stays (high ∷ (low ∷ rest)) q u = go (leb (then_byte high low) (length rest)) refl u
  where
    n : ℕ
    n = then_byte high low

    go : (b : Bool) → leb n (length rest) ≡ b → unfinished (cond b (record_front n (request_of (take n rest))) part) ≡ false →
        cond (leb n (length (rest ++ q))) (record_front n (request_of (take n (rest ++ q)))) part ≡ cond b (record_front n (request_of (take n rest))) part
    go true t u =
        let held : n ≤ length rest = leb-true n (length rest) t in
        rw (le-leb n (length (rest ++ q)) (simp length-append (omega arith)), take-append-le n rest q held)
    go false t u = cc

-- of an unfinished record some of the bytes after its length number are missing
rest-short : (high low : ℕ) (rest : List ℕ) → unfinished (front_of (high ∷ (low ∷ rest))) ≡ true → length rest < then_byte high low
unfolding front_of
rest-short high low rest = go (leb (then_byte high low) (length rest)) refl
  where
    go : (b : Bool) → leb (then_byte high low) (length rest) ≡ b →
        unfinished (cond b (record_front (then_byte high low) (request_of (take (then_byte high low) rest))) part) ≡ true →
        length rest < then_byte high low
    go true t u = let z : true ≡ false = sym u ∙ record-settles (then_byte high low) (request_of (take (then_byte high low) rest)) in
        let y : ◌≡◌ {A = ℕ} 0 1 = cc in absurd (omega arith)
    go false t u = leb-false (then_byte high low) (length rest) t

-- bytes that are no whole record are fewer than the record takes that they begin
pub unfinished-short : (p q : List ℕ) {size : ℕ} {r : Request} → unfinished (front_of p) ≡ true → front_of (p ++ q) ≡ whole size r → length p < size
unfinished-short [] q u e = let s = whole-size q e in omega arith
unfinished-short (high ∷ []) q u e = let s = whole-size (high ∷ q) e in omega arith
unfinished-short (high ∷ (low ∷ rest)) q u e =
    let s = sized high low (rest ++ q) e in let short = rest-short high low rest u in omega arith

-- a record's own bytes say its request
pub front-own : (p : List ℕ) {size : ℕ} {r : Request} → front_of p ≡ whole size r → front_of (take size p) ≡ whole size r
front-own p {size} {r} e = go (unfinished (front_of (take size p))) refl
  where
    joined : front_of (take size p ++ drop size p) ≡ whole size r
    joined = rw (take-append-drop size p) e

    go : (b : Bool) → unfinished (front_of (take size p)) ≡ b → front_of (take size p) ≡ whole size r
    go true u =
        let short = unfinished-short (take size p) (drop size p) u joined in
        let held = length-take-le size p (whole-size p e).1 in
        absurd (omega arith)
    go false u = sym (front-stays (take size p) (drop size p) u) ∙ joined

-- two bytes say how long a record is, and fewer bytes than that are a part of one
pub short-front : (p : List ℕ) → 2 ≤ length p → length p < 2 + then_byte (byte_at p 0) (byte_at p 1) → front_of p ≡ part
unfolding front_of
short-front [] two h = absurd (omega arith)
short-front (high ∷ []) two h = absurd (omega arith)
short-front (high ∷ (low ∷ rest)) two h = rw (lt-leb (then_byte high low) (length rest) (omega arith))
