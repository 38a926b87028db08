-- What the entries that are lent a record in parts share: the record as it was read, the way from an inner form's answer to the entry's, and the tests of the
-- record and its region. Assumes nothing.
use Prim.Native.Nat.{ℕ, ◌-◌, ◌<◌}
use native.Mathlib.Omega.{arith}
use mathlib.Core.Bool.{Bool, true, false}
use mathlib.Core.List.{List, ◌∷◌}
use Rattle.std.specs.Prelude.{Err, Ok}
use mathlib.Core.Path.{◌≡◌, refl, sym, ap, ◌∙◌}
use lib.ListN.{set}
use borrow.Author.Tests.{eq-eqb}
use Rattle.rounding.proofs.Tests.{true-not}
use Rattle.arena.specs.declared.Arena.{Arena}
use Rattle.arena.specs.declared.Refusal.{Refusal}
use Rattle.arena.specs.declared.Refusal.TheVariants.{State}
use Rattle.arena.specs.declared.change.Change.TheVariants.{Moved, Kept}
use Rattle.arena.specs.Creation.{reset_of}
use Rattle.arena.specs.Inner.{changed_by}
use Rattle.arena.specs.Refusals.{Allocation, Answer, Given}
use Rattle.arena.specs.Sound.{sound_of, state_test}
use Rattle.arena.proofs.Changing.{moves}
use Rattle.arena.proofs.Refusing.{refused-later, unsound-refused, sound-done}
use Rattle.arena.proofs.Soundness.{sound-open}
use Rattle.calls.specs.declared.TokenAllocation.{TokenAllocation}
use Rattle.calls.specs.declared.TokenPlaced.{TokenPlaced}
use Rattle.calls.specs.Bytes.{after_given}
use Rattle.calls.specs.Inner.{AnsweredBy, token_placed_of, TokenPlacedBy, lent_tests, block_tests, first_of}
use Rattle.calls.specs.Tests.{region_test}
use Rattle.calls.specs.Write.{lend_answer, lend_of}
use Rattle.calls.proofs.Testing.{Lent, tests-pass, lent-passes}
use Rattle.host.specs.declared.Said.{Said}
use Rattle.host.specs.declared.SaidToken.{SaidToken}
use Rattle.host.specs.Said.{said, said_given, token_said, said_token}
use Rattle.host.proofs.InPlace.{answered-in-place}
use Rattle.host.proofs.Saying.{said-given}
use Rattle.fast.specs.Parts.{head_of, parts_of}

-- of a, the record as it was read, and b, the one that is lent
module _ {a b : Arena} (read : a ≡ b) where
  -- an inner form's answer and token in numbers, once its change is made in place
  pub token-in-parts : (call : Arena → TokenAllocation) (got : TokenPlaced) {r : SaidToken} {after : Arena} →
      TokenPlacedBy call a got → r ≡ token_said got.answer got.token → after ≡ changed_by got.change b →
      (r ≡ said_token (call b)) × (after ≡ (call b).arena)
  unfolding said_token
  token-in-parts call got placed told made =
      let whole = ap (λ (x : Arena). token_placed_of x got) (sym read) ∙ placed ∙ ap call read in (
        told ∙ ap said_token whole,
        made ∙ ap (λ (o : TokenAllocation). o.arena) whole,
      )

  -- the tests of the record and the lent length
  pub lent-refused : (lent : ℕ) {answer : Answer} {r : Refusal} → answer ≡ first_of (lent_tests a lent) → answer ≡ Err r → first_of (lent_tests b lent) ≡ Err r
  lent-refused lent answered shows = ap (λ (x : Arena). first_of (lent_tests x lent)) (sym read) ∙ sym answered ∙ shows

  pub lent-passed : (lent : ℕ) {answer : Answer} → answer ≡ first_of (lent_tests a lent) → answer ≡ Ok tt → Lent b lent
  lent-passed lent answered shows =
      lent-passes b lent (tests-pass _ (sym shows ∙ answered ∙ ap (λ (x : Arena). first_of (lent_tests x lent)) read))

  -- the test of the record alone
  pub tested : {sound : Bool} → sound ≡ sound_of a → sound ≡ sound_of b
  tested e = e ∙ ap sound_of read

-- a call that moves the current pointer, and changes nothing else
pub moved-in-parts : (call : Arena → Allocation) {a : Arena} (head starts sizes pointers : List ℕ) (p : ℕ) → a ≡ parts_of head starts sizes pointers →
    sound_of (parts_of head starts sizes pointers) ≡ true → (a.head.count ≡ 0 → ⊥) →
    AnsweredBy call a (record { answer = Ok p; change = Moved p }) →
    (said 0 p ≡ said_given (call (parts_of head starts sizes pointers)).answer)
    × (parts_of head starts sizes (set pointers (a.head.count - 1) p) ≡ (call (parts_of head starts sizes pointers)).arena)
unfolding said_given
moved-in-parts call {a} head starts sizes pointers p read sound held answered =
    let b = parts_of head starts sizes pointers in
    let whole = answered-in-place read call _ answered in
    let count : a.head.count ≡ (head_of head).count = ap (λ (x : Arena). x.head.count) read in (
      ap (λ (o : Allocation). said_given o.answer) whole,
      ap (λ (k : ℕ). parts_of head starts sizes (set pointers (k - 1) p)) count
          ∙ moves (sound-open b sound) refl (above (head_of head).count (λ e. held (count ∙ e)))
          ∙ ap (λ (o : Allocation). o.arena) whole,
    )
  where
    above : (n : ℕ) → (n ≡ 0 → ⊥) → 0 < n
    above n other = omega arith

-- what an answer in numbers tells
pub said-served : (g : Given) {s : Said} → s ≡ said_given g → s.refusal ≡ 0 → g ≡ Ok s.offset
said-served g e served = said-given g (sym (ap (λ (s : Said). s.refusal) e) ∙ served) ∙ ap (λ (s : Said). Ok s.offset) (sym e)

-- so the bytes are those of a served call, or are left alone
pub served-bytes : (g : Given) (make : ℕ → List ℕ) (bytes : List ℕ) {s : Said} → s ≡ said_given g → s.refusal ≡ 0 → make s.offset ≡ after_given g make bytes
unfolding after_given
served-bytes g make bytes e served = sym (ap (λ (x : Given). after_given x make bytes) (said-served g e served))

pub unserved-bytes : (g : Given) (make : ℕ → List ℕ) (bytes : List ℕ) {s : Said} → s ≡ said_given g → (s.refusal ≡ 0 → ⊥) → bytes ≡ after_given g make bytes
unfolding said_given after_given
unserved-bytes (Ok offset) make bytes e refused = absurd (refused (ap (λ (s : Said). s.refusal) e))
unserved-bytes (Err r) make bytes e refused = refl

-- a reset tests the record alone
pub reset-refused : (a : Arena) → sound_of a ≡ false → reset_of a ≡ record { answer = Err State; arena = a }
unfolding reset_of
reset-refused a e = unsound-refused a _ e

pub reset-done : (a : Arena) → sound_of a ≡ true → reset_of a ≡ record { answer = Ok tt; arena = changed_by Kept a }
unfolding reset_of changed_by
reset-done a e = sound-done a _ e

-- lending in the record's own region
pub lend-of-own-region : (a : Arena) (offset size align : ℕ) → sound_of a ≡ true → lend_of a a.head.region offset size align ≡ first_of (block_tests a offset size align)
unfolding lend_of
lend-of-own-region a offset size align sound =
    let rest = block_tests a offset size align in
    ap lend_answer
    (refused-later (state_test a) (region_test a a.head.region ∷ rest) (true-not sound)
    ∙ refused-later (region_test a a.head.region) rest (true-not (eq-eqb a.head.region a.head.region refl)))
