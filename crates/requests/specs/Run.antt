-- Document 01, "The replay program": a request is run by the call of its name.
use Rattle.std.specs.Prelude.{List, [], ◌∷◌, ℕ, length, Err, Ok, ⊤}
use Rattle.arena.specs.declared.Arena.{Arena}
use Rattle.arena.specs.declared.Outcome.{Outcome}
use Rattle.arena.specs.declared.Refusal.{Refusal}
use Rattle.arena.specs.Creation.{reset_of, set_limit_of, no_limit_of}
use Rattle.calls.specs.Allocate.{allocate_of}
use Rattle.calls.specs.Free.{free_of}
use Rattle.calls.specs.Grow.{grow_of, grow_bytes}
use Rattle.calls.specs.Shrink.{shrink_of, shrink_bytes}
use Rattle.calls.specs.Token.{token_of, with_token_of, cancel_of}
use Rattle.calls.specs.Resize.{resize_of, resize_bytes}
use Rattle.requests.specs.Request.{Request, allocate, free, grow, shrink, reset, set_limit, no_limit, allocate_with_token, cancel, resize}
use Rattle.requests.specs.Header.{Memory}
use Rattle.arena.specs.Refusals.{Allocation, Answer, Given}

-- what a line says: an offset, that it is done, or the refusal
pub data Reply : Type 0 where
  at_offset : ℕ → Reply
  done : Reply
  refused : Refusal → Reply

unfoldable pub given_reply : Given → Reply
given_reply (Ok offset) = at_offset offset
given_reply (Err r) = refused r

unfoldable pub answer_reply : Answer → Reply
answer_reply (Ok u) = done
answer_reply (Err r) = refused r

-- the reply to a request, and the memory after it
pub record Ran : Type 0 where
  pub reply : Reply
  pub memory : Memory

abbrev pub ran_to : Reply → Arena → List ℕ → Ran
ran_to reply arena bytes = record { reply = reply; memory = record { arena = arena; bytes = bytes } }

-- `N at OFFSET` for 1, 3, 4, 8, 10, and `N done` for the others
abbrev pub gave : Allocation → List ℕ → Ran
gave r bytes = ran_to (given_reply r.answer) r.arena bytes

abbrev pub did : Outcome ⊤ → List ℕ → Ran
did r bytes = ran_to (answer_reply r.answer) r.arena bytes

unfoldable pub run_in : Request → Arena → List ℕ → Ran
run_in (allocate size align) a bytes = gave (allocate_of a (length bytes) size align) bytes
run_in (free offset size align) a bytes = did (free_of a offset size align) bytes
run_in (grow offset old old_align new new_align) a bytes =
    gave (grow_of a (length bytes) offset old old_align new new_align) (grow_bytes a bytes offset old old_align new new_align)
run_in (shrink offset old old_align new new_align) a bytes =
    gave (shrink_of a (length bytes) offset old old_align new new_align) (shrink_bytes a bytes offset old old_align new new_align)
run_in reset a bytes = did (reset_of a) bytes
run_in (set_limit limit) a bytes = did (set_limit_of a limit) bytes
run_in no_limit a bytes = did (no_limit_of a) bytes
run_in (allocate_with_token size align) a bytes =
    ran_to (given_reply (with_token_of a (length bytes) size align).answer) (with_token_of a (length bytes) size align).arena bytes
run_in (cancel offset count pointer) a bytes = did (cancel_of a offset (token_of count pointer)) bytes
run_in (resize offset old align new) a bytes =
    gave (resize_of a (length bytes) offset old align new) (resize_bytes a bytes offset old align new)

abbrev pub run : Request → Memory → Ran
run r m = run_in r m.arena m.bytes

-- the replies to a row of requests, and the memory after them; a refusal doesn't stop the run
pub record Answers : Type 0 where
  pub replies : List Reply
  pub memory : Memory

abbrev pub answered_first : Reply → Answers → Answers
answered_first reply later = record { replies = reply ∷ later.replies; memory = later.memory }

unfoldable pub answers : List Request → Memory → Answers
answers [] m = record { replies = []; memory = m }
answers (r ∷ rs) m = answered_first (run r m).reply (answers rs (run r m).memory)
