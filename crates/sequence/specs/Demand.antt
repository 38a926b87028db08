-- Demand 3: what holds in every state of every sequence of calls, each sentence of the user's beside the definition that says it.
use Rattle.std.specs.Prelude.{ℕ, ◌+◌, ◌≤◌, ◌<◌, ◌≡◌, true, false, List, [], ◌∷◌, ◌⊎◌, length, get_or, Ok, Option, None as none, Some as some}
use Rattle.std.specs.Int.{◌∣◌}
use Rattle.rounding.specs.Every.{Each}
use Rattle.arena.specs.declared.Arena.{Arena}
use Rattle.arena.specs.declared.Chunk.{Chunk}
use Rattle.arena.specs.Numbers.{places}
use Rattle.arena.specs.Record.{end_of, held_of}
use Rattle.arena.specs.Sound.{sound_of}
use Rattle.arena.specs.Creation.{created_of}
use Rattle.calls.specs.declared.Token.{Token}
use Rattle.calls.specs.Tests.{acceptable}
use Rattle.calls.specs.Token.{bad_token}
use Rattle.sequence.specs.Ledger.{Live}
use Rattle.sequence.specs.History.{State, Call, run, created}
use Rattle.sequence.specs.Room.{RoomOfRequests, RoomOfBlock}
use Rattle.sequence.specs.Heard.{Heard, HeardOfBlock}

-- something holds of some element of a list
abbrev pub Some : {A : Type 0} → (A → Type 0) → List A → Type 0
Some holds [] = ⊥
Some holds (x ∷ xs) = holds x ⊎ Some holds xs

-- something holds of each two elements of a list
abbrev pub EachTwo : {A : Type 0} → (A → A → Type 0) → List A → Type 0
EachTwo holds [] = Unit {0}
EachTwo holds (x ∷ xs) = Each (holds x) xs × EachTwo holds xs

-- "every live block is aligned"
abbrev pub Aligned : Live → Type 0
Aligned b = b.align ∣ b.offset

-- ", inside one held chunk"
abbrev pub Inside : List Chunk → Live → Type 0
Inside cs b = Some (λ c. (c.start ≤ b.offset) × (b.offset + b.size ≤ end_of c)) cs

-- a byte of the region is one of the block's
abbrev pub Owns : Live → ℕ → Type 0
Owns b x = (b.offset ≤ x) × (x < b.offset + b.size)

-- ", and shares no byte with another"
abbrev pub SharesNone : Live → Live → Type 0
SharesNone b d = (x : ℕ) → Owns b x → Owns d x → ⊥

-- "it holds what its owner last put there": of each byte of the block the ledger says what the owner put there, or that it never did
pub record Holds (bytes : List ℕ) (b : Live) : Type 0 where
  pub each_byte : length b.put ≡ b.size
  pub in_region : b.offset + b.size ≤ length bytes
  pub stands : (i v : ℕ) → get_or b.put i none ≡ some v → get_or bytes (b.offset + i) 0 ≡ v

-- no live block is refused by BLOCK, and no live token by TOKEN
abbrev pub Accepted : Arena → Live → Type 0
Accepted a b = acceptable (held_of a) b.offset b.size b.align ≡ true

abbrev pub TokenAccepted : Arena → ℕ → Option Token → Type 0
TokenAccepted a offset none = Unit {0}
TokenAccepted a offset (some token) = bad_token a.head.minimum (held_of a) offset token ≡ false

pub record Demand (s : State) : Type 0 where
  pub aligned : Each Aligned s.ledger
  pub inside : Each (Inside (held_of s.arena)) s.ledger
  pub apart : EachTwo SharesNone s.ledger
  pub holds : Each (Holds s.bytes) s.ledger
  -- "answers "no room" exactly when"
  pub room : RoomOfRequests s.arena (length s.bytes)
  pub room_of_blocks : Each (RoomOfBlock s.arena (length s.bytes)) s.ledger
  -- and what keeps these from being met by refusing
  pub accepted : Each (Accepted s.arena) s.ledger
  pub token_accepted : Each (λ b. TokenAccepted s.arena b.offset b.token) s.ledger
  pub heard : Heard s.arena (length s.bytes)
  pub heard_of_blocks : Each (HeardOfBlock s.arena (length s.bytes)) s.ledger
  -- the record stays sound, and the region's length its own
  pub sound : sound_of s.arena ≡ true
  pub few_chunks : length (held_of s.arena) ≤ places
  pub region_length : length s.bytes ≡ s.arena.head.region

-- "any sequence of calls from a new arena": of any region, minimum and capacity that creation serves. A part of a sequence is a sequence, so the
-- demand holds between any two calls. Proved in proofs/Theorem.antt.
abbrev pub EverySequence : Type 0
EverySequence =
    (minimum capacity : ℕ) (bytes : List ℕ) →
    (created_of (length bytes) minimum capacity).answer ≡ (Ok tt) →
    (calls : List Call) →
    Demand (run (created minimum capacity bytes) calls)
