-- Demand 3: "a call needing new room and not refused otherwise answers "no room" exactly when neither the current chunk nor any rung of the
-- sizing ladder can take the request".
use Rattle.std.specs.Prelude.{ℕ, ◌≤◌, ◌<◌, ◌≡◌, ◌⊎◌, ◌↔◌, Some, Err, Ok}
use Rattle.std.specs.Int.{◌∣◌}
use Rattle.arena.specs.declared.Arena.{Arena}
use Rattle.arena.specs.declared.Chunk.{Chunk}
use Rattle.arena.specs.Record.{held_of}
use Rattle.arena.specs.Refusals.{number_of, Given}
use Rattle.arena.specs.Ladder.{Rung, rung_chunk}
use Rattle.calls.specs.Allocate.{Taken, current_gives, allocate_of}
use Rattle.calls.specs.Grow.{grown_in_place, grow_of}
use Rattle.calls.specs.Shrink.{shrink_of}
use Rattle.calls.specs.Resize.{resize_of}
use Rattle.calls.specs.Token.{with_token_of}
use Rattle.sequence.specs.Ledger.{Live}

-- the number of a refusal, and 0 where a block is given
abbrev pub number_given : Given → ℕ
number_given (Ok offset) = 0
number_given (Err r) = number_of r

-- "the current chunk can take the request", by the rule of allocate
abbrev pub CurrentTakes : Arena → ℕ → ℕ → Type 0
CurrentTakes a size align = (t : Taken) × (current_gives a.head.minimum (held_of a) size align ≡ Some t)

-- "when either way, in place or afresh, fits in it"
abbrev pub CurrentGrows : Arena → ℕ → ℕ → ℕ → ℕ → ℕ → Type 0
CurrentGrows a offset old old_align new new_align =
    ((t : Taken) × (grown_in_place a.head.minimum (held_of a) offset old old_align new new_align ≡ Some t)) ⊎ CurrentTakes a new new_align

-- "any rung of the sizing ladder can take the request": some rung is served
abbrev pub RungTakes : Arena → ℕ → ℕ → Type 0
RungTakes a size align =
    (base : ℕ) × (c : Chunk) × Rung a.head (held_of a) size base × (rung_chunk a.head (held_of a) size align base ≡ Some c)

-- "not refused otherwise": the call gives a block, or answers ROOM, which is number 8
abbrev pub NotRefusedOtherwise : Given → Type 0
NotRefusedOtherwise answer = (number_given answer ≡ 0) ⊎ (number_given answer ≡ 8)

-- "answers "no room" exactly when neither .. nor .. can take the request"
abbrev pub RoomExactlyWhen : Given → Type 0 → Type 0 → Type 0
RoomExactlyWhen answer current rung = NotRefusedOtherwise answer → (number_given answer ≡ 8) ↔ ((¬ current) × (¬ rung))

-- a call that needs no new room never answers ROOM
abbrev pub NeverRoom : Given → Type 0
NeverRoom answer = ¬ (number_given answer ≡ 8)

-- of the calls that name no block; copy in and fill answer as allocate does
pub record RoomOfRequests (a : Arena) (lent : ℕ) : Type 0 where
  pub of_allocate : (size align : ℕ) →
      RoomExactlyWhen (allocate_of a lent size align).answer (CurrentTakes a size align) (RungTakes a size align)
  pub of_with_token : (size align : ℕ) →
      RoomExactlyWhen (with_token_of a lent size align).answer (CurrentTakes a size align) (RungTakes a size align)

-- of the calls that name a live block: every grow; a shrink to a higher alignment that the offset has not; a resize that is a fresh allocation
-- or a grow
pub record RoomOfBlock (a : Arena) (lent : ℕ) (b : Live) : Type 0 where
  pub of_grow : (new new_align : ℕ) →
      RoomExactlyWhen (grow_of a lent b.offset b.size b.align new new_align).answer
      (CurrentGrows a b.offset b.size b.align new new_align) (RungTakes a new new_align)
  pub of_shrink : (new new_align : ℕ) → b.align < new_align → ¬ (new_align ∣ b.offset) →
      RoomExactlyWhen (shrink_of a lent b.offset b.size b.align new new_align).answer
      (CurrentTakes a new new_align) (RungTakes a new new_align)
  pub of_other_shrink : (new new_align : ℕ) → (new_align ≤ b.align) ⊎ (new_align ∣ b.offset) →
      NeverRoom (shrink_of a lent b.offset b.size b.align new new_align).answer
  pub of_resize_afresh : (new : ℕ) → b.size ≡ 0 →
      RoomExactlyWhen (resize_of a lent b.offset b.size b.align new).answer
      (CurrentTakes a new b.align) (RungTakes a new b.align)
  pub of_resize_up : (new : ℕ) → 0 < b.size → b.size < new →
      RoomExactlyWhen (resize_of a lent b.offset b.size b.align new).answer
      (CurrentGrows a b.offset b.size b.align new b.align) (RungTakes a new b.align)
  pub of_resize_down : (new : ℕ) → 0 < b.size → new ≤ b.size →
      NeverRoom (resize_of a lent b.offset b.size b.align new).answer
