-- What the contracts between our own functions say. Nothing of document 01 is decided here, and no function that a user calls cites it.
use Rattle.std.specs.Prelude.{ℕ, ◌+◌, ◌-◌, ◌≤◌, ◌≡◌, Bool, true, ◌&&◌, cond, List, [], ◌∷◌, leb, Option, None, Some, Ok}
use Rattle.rounding.specs.Round.{round_up}
use Rattle.arena.specs.declared.Arena.{Arena}
use Rattle.arena.specs.declared.Chunk.{Chunk}
use Rattle.arena.specs.declared.Outcome.{Outcome}
use Rattle.arena.specs.declared.change.Change.{Change}
use Rattle.arena.specs.declared.change.Change.TheVariants.{Moved}
use Rattle.arena.specs.declared.Refusal.TheVariants.{Direction}
use Rattle.arena.specs.Inner.{changed_by}
use Rattle.arena.specs.Numbers.{most}
use Rattle.arena.specs.Record.{held_of}
use Rattle.arena.specs.Refusals.{Test, test, refused_by, Allocation, Answer}
use Rattle.arena.specs.Sound.{allowed_align, sound_of, state_test}
use Rattle.calls.specs.declared.Answered.{Answered}
use Rattle.calls.specs.declared.Token.{Token}
use Rattle.calls.specs.declared.TokenAllocation.{TokenAllocation}
use Rattle.calls.specs.declared.TokenPlaced.{TokenPlaced}
use Rattle.calls.specs.Allocate.{at_pointer, chunk_gives}
use Rattle.calls.specs.Token.{token_given}
use Rattle.calls.specs.Tests.{acceptable, region_test, size_test, sizes_test, align_test, aligns_test, block_test}
use Rattle.calls.specs.Write.{lend_answer}

-- the new pointer that the current chunk gives
unfoldable pub current_pointer : ℕ → List Chunk → ℕ → ℕ → Option ℕ
current_pointer minimum [] size align = None
current_pointer minimum (c ∷ cs) size align = chunk_gives minimum c size align

-- what has been tested of a record and a request before the inner calls
pub record Tested (a : Arena) (size align : ℕ) : Type 0 where
  pub sound : sound_of a ≡ true
  pub size_bound : size ≤ most
  pub align_allowed : allowed_align align ≡ true

-- what an inner form's answer comes to, once its change is made
abbrev pub answered_of : {T : Type 0} → Arena → Answered T → Outcome T
answered_of a got = record { answer = got.answer; arena = changed_by got.change a }

abbrev pub AnsweredBy : {T : Type 0} → (Arena → Outcome T) → Arena → Answered T → Type 0
AnsweredBy call a got = answered_of a got ≡ call a

-- what the fast part of such a form answers: where it has a pointer, moving there is the whole call; where it has none, nothing is said
abbrev pub FastBy : (Arena → Allocation) → Arena → Option ℕ → Type 0
FastBy call a fast = (p : ℕ) → fast ≡ Some p → AnsweredBy call a (record { answer = Ok p; change = Moved p })

abbrev pub ChangedBy : (Arena → Arena) → Arena → Change → Type 0
ChangedBy work a change = changed_by change a ≡ work a

-- an allocation with the token that was recorded before it
abbrev pub with_token : Allocation → Token → TokenAllocation
with_token got token = record { answer = got.answer; token = token_given got.answer token; arena = got.arena }

abbrev pub token_placed_of : Arena → TokenPlaced → TokenAllocation
token_placed_of a placed = record { answer = placed.answer; token = placed.token; arena = changed_by placed.change a }

abbrev pub TokenPlacedBy : (Arena → TokenAllocation) → Arena → TokenPlaced → Type 0
TokenPlacedBy call a placed = token_placed_of a placed ≡ call a

-- the tests that calls share, by what has been told apart of them: of a call that is lent bytes, of one that names a block of a sound record, and of one
-- that asks for another size of that block; and the answer of the first that applies
abbrev pub lent_tests : Arena → ℕ → List Test
lent_tests a lent = state_test a ∷ (region_test a lent ∷ [])

abbrev pub block_tests : Arena → ℕ → ℕ → ℕ → List Test
block_tests a offset size align = size_test size ∷ (align_test align ∷ (block_test (held_of a) offset size align ∷ []))

abbrev pub change_tests : Arena → ℕ → ℕ → ℕ → ℕ → ℕ → Bool → List Test
change_tests a offset old old_align new new_align backwards =
    sizes_test old new
    ∷ (aligns_test old_align new_align ∷ (block_test (held_of a) offset old old_align ∷ (test Direction backwards ∷ [])))

abbrev pub first_of : List Test → Answer
first_of ts = lend_answer (refused_by ts)

-- what is known of a block that is found to be the last given out: it is at the current pointer, and no test of a named block refuses it
pub record LastBlock (a : Arena) (offset size align : ℕ) : Type 0 where
  pub stands_at_pointer : at_pointer (held_of a) offset ≡ true
  pub size_bound : size ≤ most
  pub align_allowed : allowed_align align ≡ true
  pub block : acceptable (held_of a) offset size align ≡ true

-- the pointer that a block at the current one goes down to when it grows in place
unfoldable pub grown_pointer : ℕ → List Chunk → ℕ → ℕ → ℕ → ℕ → ℕ → Option ℕ
grown_pointer minimum cs offset old old_align new new_align =
    cond (leb new_align old_align && at_pointer cs offset) (current_pointer minimum cs (round_up new minimum - old) old_align) None

-- what the work of a grow leans on, and that of a shrink: a tested request, and a block that lies in the region
pub record GrowTested (a : Arena) (old old_align new new_align : ℕ) : Type 0 where
  pub request : Tested a new new_align
  pub old_align_allowed : allowed_align old_align ≡ true
  pub upwards : old ≤ new

pub record ShrinkTested (a : Arena) (offset old new new_align : ℕ) : Type 0 where
  pub request : Tested a new new_align
  pub inside : offset + old ≤ a.head.region
  pub downwards : new ≤ old
