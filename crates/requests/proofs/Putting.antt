-- Two texts put one after the other are their join put at once; a text keeps the output's length. Assumes nothing.
use Prim.Native.Nat.{ℕ, ◌+◌, ◌≤◌}
use native.Mathlib.Omega.{arith}
use mathlib.Core.List.{List, ◌++◌, append_assoc}
use mathlib.Core.Path.{◌≡◌, sym, ap, ◌∙◌}
use lib.ListN.{length, take, drop, length-append}
use lib.Seq.{take_at, drop-append-add, drop-drop, length-take-le}
use Rattle.calls.specs.Bytes.{written}
use Rattle.calls.proofs.Writing.{length-written}
use Rattle.requests.specs.Inner.{Put}

module _ (out : List ℕ) (at : ℕ) (text : List ℕ) (fits : at + length text ≤ length out) where
  -- the output up to the end of the text
  front_length : length (take at out ++ text) ≡ at + length text
  front_length = rw (length-append (take at out) text, length-take-le at out (omega arith))

  written_then : (more : List ℕ) → written (written out at text) (at + length text) more ≡ written out at (text ++ more)
  unfolding written
  written_then more =
      let rest = drop (at + length text) out in
      let joined : at + length text + length more ≡ at + length (text ++ more) = omega (arith, length-append text more) in
      let past : drop (at + length text + length more) ((take at out ++ text) ++ rest) ≡ drop (at + length (text ++ more)) out =
      ap (λ (n : ℕ). drop (n + length more) ((take at out ++ text) ++ rest)) (sym front_length)
      ∙ drop-append-add (take at out ++ text) rest (length more)
      ∙ drop-drop (length more) (at + length text) out
      ∙ ap (λ (n : ℕ). drop n out) joined in
      rw (← append_assoc (take at out) text rest, take_at (take at out ++ text) rest (at + length text) front_length, past, append_assoc (take at out) text, append_assoc text more)

-- the output is as long as before
pub put-length : {before : List ℕ} {at : ℕ} {text after : List ℕ} {next : ℕ} → at + length text ≤ length before → Put before at text after next →
    length after ≡ length before
put-length {before} {at} {text} fits p = ap length p.bytes ∙ length-written before at text fits

pub put_then : {before : List ℕ} {at : ℕ} {text middle : List ℕ} {next : ℕ} {more after : List ℕ} {end : ℕ} → next ≤ length before →
    Put before at text middle next → Put middle next more after end → Put before at (text ++ more) after end
put_then {before} {at} {text} {middle} {next} {more} within p q =
    let fits : at + length text ≤ length before = omega (arith, p.moved) in
    record {
      bytes =
          q.bytes ∙ ap (λ (l : List ℕ). written l next more) p.bytes ∙ ap (λ (n : ℕ). written (written before at text) n more) p.moved
          ∙ written_then before at text fits more;
      moved = omega (arith, q.moved, p.moved, length-append text more);
    }

-- up to the next place stands what stood before the text, and the text
pub put-taken : {before : List ℕ} {at : ℕ} {text after : List ℕ} {next : ℕ} → at + length text ≤ length before → Put before at text after next →
    take next after ≡ take at before ++ text
unfolding written
put-taken {before} {at} {text} fits p =
    rw (p.bytes, p.moved, ← append_assoc (take at before) text (drop (at + length text) before))
    (take_at (take at before ++ text) (drop (at + length text) before) (at + length text) (front_length before at text fits))
