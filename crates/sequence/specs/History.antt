-- Demand 3, "any sequence of calls from a new arena": a state, the calls, and the state after a list of them. A call names a live block by its
-- place in the ledger, so that every list of calls is such a sequence. Each step cites the definition that the call's contract cites.
use Rattle.std.specs.Prelude.{ℕ, ◌+◌, cond, List, [], ◌∷◌, length, replicate, leb, Option, None, Some, Err, Ok, ⊤}
use Rattle.arena.specs.declared.Arena.{Arena}
use Rattle.arena.specs.declared.Outcome.{Outcome}
use Rattle.arena.specs.Creation.{created_of, set_limit_of, no_limit_of, reset_of}
use Rattle.calls.specs.declared.Token.{Token}
use Rattle.calls.specs.Bytes.{written}
use Rattle.calls.specs.Allocate.{allocate_of}
use Rattle.calls.specs.Free.{free_of}
use Rattle.calls.specs.Grow.{grow_of, grow_bytes, grow_zeroed_bytes}
use Rattle.calls.specs.Shrink.{shrink_of, shrink_bytes}
use Rattle.calls.specs.Resize.{resize_of, resize_bytes}
use Rattle.calls.specs.Token.{with_token_of, cancel_of}
use Rattle.calls.specs.Write.{copy_in_bytes, fill_bytes, lend_of}
use Rattle.sequence.specs.Ledger.{Live, block, unknown, known, kept, noted, Chosen, choose}
use Rattle.arena.specs.Refusals.{Allocation, Answer, Given}

-- the record, the lent region, and the live blocks, the one last touched first
pub record State : Type 0 where
  pub arena : Arena
  pub bytes : List ℕ
  pub ledger : List Live

abbrev pub state_of : Arena → List ℕ → List Live → State
state_of arena bytes ledger = record { arena = arena; bytes = bytes; ledger = ledger }

pub data Call : Type 0 where
  -- a size and an alignment
  allocate with_token : ℕ → ℕ → Call
  -- a source and an alignment; a size, an alignment and a value
  copy_in : List ℕ → ℕ → Call
  fill : ℕ → ℕ → ℕ → Call
  -- a place in the ledger
  free cancel : ℕ → Call
  -- a place, a new size and a new alignment; a place and a new size
  grow grow_zeroed shrink : ℕ → ℕ → ℕ → Call
  resize : ℕ → ℕ → Call
  -- the owner of the block at a place writes these from a byte of the block on; or has the block lent, and writes them so
  write lend : ℕ → ℕ → List ℕ → Call
  set_limit : ℕ → Call
  no_limit reset : Call

-- the ledger after a call that gives out a block, and after one that does not: as it was, where the call is refused
unfoldable pub if_given : Given → List Live → (ℕ → List Live) → List Live
if_given (Ok offset) before after = after offset
if_given (Err r) before after = before

unfoldable pub if_done : Answer → List Live → List Live → List Live
if_done (Ok u) before after = after
if_done (Err r) before after = before

-- a call that gives out a block: unless it is refused, the new block is live beside the others
abbrev pub giving : State → List Live → Allocation → List ℕ → (ℕ → Live) → State
giving s others out bytes new =
    state_of out.arena bytes (if_given out.answer s.ledger (λ offset. new offset ∷ others))

-- a call that gives out none: unless it is refused, these blocks are live
abbrev pub leaving : State → Outcome ⊤ → List Live → State
leaving s out others = state_of out.arena s.bytes (if_done out.answer s.ledger others)

abbrev pub token_step : ℕ → ℕ → State → State
token_step size align s =
    let out = with_token_of s.arena (length s.bytes) size align in
    state_of out.arena s.bytes
    (if_given out.answer s.ledger (λ offset. block offset size align (unknown size) (Some out.token) ∷ s.ledger))

-- the block b is named, and the others are those beside it in the ledger
abbrev pub free_step : State → Live → List Live → State
free_step s b others = leaving s (free_of s.arena b.offset b.size b.align) others

abbrev pub grow_step : ℕ → ℕ → State → Live → List Live → State
grow_step new new_align s b others =
    giving s others (grow_of s.arena (length s.bytes) b.offset b.size b.align new new_align)
    (grow_bytes s.arena s.bytes b.offset b.size b.align new new_align)
    (λ offset. block offset new new_align (kept b new None) None)

abbrev pub grow_zeroed_step : ℕ → ℕ → State → Live → List Live → State
grow_zeroed_step new new_align s b others =
    giving s others (grow_of s.arena (length s.bytes) b.offset b.size b.align new new_align)
    (grow_zeroed_bytes s.arena s.bytes b.offset b.size b.align new new_align)
    (λ offset. block offset new new_align (kept b new (Some 0)) None)

abbrev pub shrink_step : ℕ → ℕ → State → Live → List Live → State
shrink_step new new_align s b others =
    giving s others (shrink_of s.arena (length s.bytes) b.offset b.size b.align new new_align)
    (shrink_bytes s.arena s.bytes b.offset b.size b.align new new_align)
    (λ offset. block offset new new_align (kept b new None) None)

abbrev pub resize_step : ℕ → State → Live → List Live → State
resize_step new s b others =
    giving s others (resize_of s.arena (length s.bytes) b.offset b.size b.align new)
    (resize_bytes s.arena s.bytes b.offset b.size b.align new)
    (λ offset. block offset new b.align (kept b new None) None)

-- a block without a token has nothing to cancel
unfoldable pub cancel_with : Option Token → State → Live → List Live → State
cancel_with None s b others = s
cancel_with (Some token) s b others = leaving s (cancel_of s.arena b.offset token) others

abbrev pub cancel_step : State → Live → List Live → State
cancel_step s b others = cancel_with b.token s b others

-- owners write only in their own live blocks: what does not lie in the block isn't written
unfoldable pub write_step : ℕ → List ℕ → State → Live → List Live → State
write_step from new s b others =
    cond (leb (from + length new) b.size)
    (state_of s.arena (written s.bytes (b.offset + from) new)
    (block b.offset b.size b.align (noted b.put from new) b.token ∷ others))
    s

-- a block that isn't lent isn't written
unfoldable pub if_lent : Answer → State → State → State
if_lent (Ok u) before after = after
if_lent (Err r) before after = before

abbrev pub lend_step : ℕ → List ℕ → State → Live → List Live → State
lend_step from new s b others =
    if_lent (lend_of s.arena (length s.bytes) b.offset b.size b.align) s (write_step from new s b others)

-- the block at a place of the ledger; where no block is, nothing happens
unfoldable pub on_chosen : Option (Chosen Live) → (State → Live → List Live → State) → State → State
on_chosen None act s = s
on_chosen (Some c) act s = act s c.one c.others

abbrev pub on_block : ℕ → (State → Live → List Live → State) → State → State
on_block place act s = on_chosen (choose s.ledger place) act s

unfoldable pub step : State → Call → State
step s (allocate size align) =
    giving s s.ledger (allocate_of s.arena (length s.bytes) size align) s.bytes
    (λ offset. block offset size align (unknown size) None)
step s (with_token size align) = token_step size align s
step s (copy_in source align) =
    giving s s.ledger (allocate_of s.arena (length s.bytes) (length source) align) (copy_in_bytes s.arena s.bytes source align)
    (λ offset. block offset (length source) align (known source) None)
step s (fill size align value) =
    giving s s.ledger (allocate_of s.arena (length s.bytes) size align) (fill_bytes s.arena s.bytes size align value)
    (λ offset. block offset size align (replicate size (Some value)) None)
step s (free place) = on_block place free_step s
step s (cancel place) = on_block place cancel_step s
step s (grow place new new_align) = on_block place (grow_step new new_align) s
step s (grow_zeroed place new new_align) = on_block place (grow_zeroed_step new new_align) s
step s (shrink place new new_align) = on_block place (shrink_step new new_align) s
step s (resize place new) = on_block place (resize_step new) s
step s (write place from new) = on_block place (write_step from new) s
step s (lend place from new) = on_block place (lend_step from new) s
step s (set_limit limit) = leaving s (set_limit_of s.arena limit) s.ledger
step s no_limit = leaving s (no_limit_of s.arena) s.ledger
step s reset = leaving s (reset_of s.arena) []

unfoldable pub run : State → List Call → State
run s [] = s
run s (call ∷ calls) = run (step s call) calls

-- a new arena over lent bytes
unfoldable pub created : ℕ → ℕ → List ℕ → State
created minimum capacity bytes = state_of (created_of (length bytes) minimum capacity).arena bytes []
