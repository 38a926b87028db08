-- What a call knows once no test refuses it, and of the refusal that one gives. Assumes nothing.
use Prim.Native.Nat.{ℕ, ◌≤◌, ◌<◌}
use native.Mathlib.Omega.{arith}
use mathlib.Core.Bool.{Bool, true, false, cond, not, ◌||◌, ◌&&◌}
use mathlib.Core.List.{List, [], ◌∷◌}
use Rattle.std.specs.Prelude.{None, Some}
use Rattle.std.proofs.lemmas.Option.{none-some, same_Some}
use mathlib.Core.Path.{◌≡◌, sym, ap, subst, ◌∙◌}
use lib.Dec.{ltb, eqb}
use borrow.Author.Tests.{ltb-false, eqb-true, ne_eqb, not-false}
use Rattle.rounding.specs.Every.{Each}
use Rattle.rounding.proofs.Tests.{or-false-left, or-false-right}
use Rattle.arena.specs.declared.Arena.{Arena}
use Rattle.arena.specs.Numbers.{most}
use Rattle.arena.specs.Record.{held_of}
use Rattle.arena.specs.declared.Refusal.{Refusal}
use Rattle.arena.specs.Refusals.{Test, refused_by}
use Rattle.arena.specs.Sound.{allowed_align, sound_of}
use Rattle.arena.proofs.Refusing.{not-refused}
use Rattle.arena.proofs.Soundness.{AllowedAlign, align-open, Sound, sound-open}
use Rattle.calls.specs.declared.Token.{Token}
use Rattle.calls.specs.Tests.{acceptable}
use Rattle.calls.specs.Allocate.{request_tests}
use Rattle.calls.specs.Free.{free_tests}
use Rattle.calls.specs.Grow.{grow_tests}
use Rattle.calls.specs.Shrink.{shrink_tests}
use Rattle.calls.specs.Resize.{resize_tests}
use Rattle.calls.specs.Token.{bad_token, cancel_tests}

-- what holds of each test's refusal holds of the one that is answered
pub refused-one : (P : Refusal → Type 0) (ts : List Test) → Each (λ t. P t.refusal) ts → {r : Refusal} → refused_by ts ≡ Some r → P r
unfolding refused_by
refused-one P [] h {r} e = absurd (none-some r e)
refused-one P (t ∷ ts) h {r} e = go t.applies e (refused-one P ts h.1)
  where
    go : (b : Bool) → cond b (Some t.refusal) (refused_by ts) ≡ Some r → (refused_by ts ≡ Some r → P r) → P r
    go true q rest = subst P (same_Some t.refusal r q) h.0
    go false q rest = rest q

-- a sound record, the bytes of its region, and a size and an alignment that are allowed
pub record Request (a : Arena) (lent size align : ℕ) : Type 0 where
  pub sound : Sound a
  pub region : lent ≡ a.head.region
  pub size_bound : size ≤ most
  pub align_allowed : AllowedAlign align

opened : (a : Arena) (lent : ℕ) {size align : ℕ} → not (sound_of a) ≡ false → not (eqb lent a.head.region) ≡ false → size ≤ most → AllowedAlign align →
    Request a lent size align
opened a lent s r l d =
    record {
      sound = sound-open a (not-false (sound_of a) s);
      region = eqb-true lent a.head.region (not-false (eqb lent a.head.region) r);
      size_bound = l;
      align_allowed = d;
    }

sizes-open : (old new : ℕ) → (ltb most old || ltb most new) ≡ false → (old ≤ most) × (new ≤ most)
sizes-open old new t = (ltb-false most old (or-false-left (ltb most old) _ t), ltb-false most new (or-false-right (ltb most old) _ t))

align-passed : (align : ℕ) → not (allowed_align align) ≡ false → AllowedAlign align
align-passed align t = align-open align (not-false (allowed_align align) t)

aligns-open : (old new : ℕ) → (not (allowed_align old) || not (allowed_align new)) ≡ false → AllowedAlign old × AllowedAlign new
aligns-open old new t = (align-passed old (or-false-left (not (allowed_align old)) _ t), align-passed new (or-false-right (not (allowed_align old)) _ t))

pub request-passes : (a : Arena) (lent size align : ℕ) → refused_by (request_tests a lent size align) ≡ None → Request a lent size align
request-passes a lent size align e =
    let passed = not-refused (request_tests a lent size align) e in
    opened a lent passed.0 passed.1.0 (ltb-false most size passed.1.1.0) (align-passed align passed.1.1.1.0)

-- and an acceptable block; of a grow, that the sizes go up, and of a shrink, that they go down
pub record Change (a : Arena) (lent offset old old_align new new_align low high : ℕ) : Type 0 where
  pub request : Request a lent new new_align
  pub old-bound : old ≤ most
  pub old-allowed : AllowedAlign old_align
  pub accepted : acceptable (held_of a) offset old old_align ≡ true
  pub direction : low ≤ high

pub grow-passes : (a : Arena) (lent offset old old_align new new_align : ℕ) → refused_by (grow_tests a lent offset old old_align new new_align) ≡ None →
    Change a lent offset old old_align new new_align old new
grow-passes a lent offset old old_align new new_align e =
    let passed = not-refused (grow_tests a lent offset old old_align new new_align) e in
    let sizes = sizes-open old new passed.1.1.0 in
    let aligns = aligns-open old_align new_align passed.1.1.1.0 in
    record {
      request = opened a lent passed.0 passed.1.0 sizes.1 aligns.1;
      old-bound = sizes.0;
      old-allowed = aligns.0;
      accepted = not-false (acceptable (held_of a) offset old old_align) passed.1.1.1.1.0;
      direction = ltb-false new old passed.1.1.1.1.1.0;
    }

pub shrink-passes : (a : Arena) (lent offset old old_align new new_align : ℕ) → refused_by (shrink_tests a lent offset old old_align new new_align) ≡ None →
    Change a lent offset old old_align new new_align new old
shrink-passes a lent offset old old_align new new_align e =
    let passed = not-refused (shrink_tests a lent offset old old_align new new_align) e in
    let sizes = sizes-open old new passed.1.1.0 in
    let aligns = aligns-open old_align new_align passed.1.1.1.0 in
    record {
      request = opened a lent passed.0 passed.1.0 sizes.1 aligns.1;
      old-bound = sizes.0;
      old-allowed = aligns.0;
      accepted = not-false (acceptable (held_of a) offset old old_align) passed.1.1.1.1.0;
      direction = ltb-false old new passed.1.1.1.1.1.0;
    }

pub resize-passes : (a : Arena) (lent offset old align new : ℕ) → refused_by (resize_tests a lent offset old align new) ≡ None → Request a lent new align
resize-passes a lent offset old align new e =
    let passed = not-refused (resize_tests a lent offset old align new) e in
    opened a lent passed.0 passed.1.0 (sizes-open old new passed.1.1.0).1 (align-passed align passed.1.1.1.0)

-- the block of a resize is tested where it has bytes
pub resize-accepted : (a : Arena) (lent offset old align new : ℕ) → refused_by (resize_tests a lent offset old align new) ≡ None → 0 < old →
    acceptable (held_of a) offset old align ≡ true
resize-accepted a lent offset old align new e l =
    let passed = not-refused (resize_tests a lent offset old align new) e in
    let bytes : not (eqb old 0) ≡ true = ap not (ne_eqb old 0 (λ z. omega arith)) in
    not-false (acceptable (held_of a) offset old align)
    (ap (λ (b : Bool). b && not (acceptable (held_of a) offset old align)) (sym bytes) ∙ passed.1.1.1.1.0)

pub free-passes : (a : Arena) (offset size align : ℕ) → refused_by (free_tests a offset size align) ≡ None →
    Sound a × (acceptable (held_of a) offset size align ≡ true)
free-passes a offset size align e =
    let passed = not-refused (free_tests a offset size align) e in
    (sound-open a (not-false (sound_of a) passed.0), not-false (acceptable (held_of a) offset size align) passed.1.1.1.0)

pub cancel-passes : (a : Arena) (offset : ℕ) (token : Token) → refused_by (cancel_tests a offset token) ≡ None →
    Sound a × (bad_token a.head.minimum (held_of a) offset token ≡ false)
cancel-passes a offset token e =
    let passed = not-refused (cancel_tests a offset token) e in
    (sound-open a (not-false (sound_of a) passed.0), passed.1.0)
