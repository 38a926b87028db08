-- Running a request keeps the record sound and its region length. Assumes nothing.
use Prim.Native.Nat.{ℕ}
use mathlib.Core.Bool.{true}
use mathlib.Core.List.{List}
use mathlib.Core.Path.{◌≡◌, refl}
use lib.ListN.{length}
use Rattle.arena.specs.declared.Arena.{Arena}
use Rattle.arena.specs.Record.{holding}
use Rattle.arena.specs.Sound.{sound_of}
use Rattle.arena.specs.Creation.{reset_of, set_limit_of, no_limit_of}
use Rattle.arena.proofs.StaysSound.{reset-sound, set-limit-sound, no-limit-sound}
use Rattle.calls.specs.Allocate.{allocate_of}
use Rattle.calls.specs.Free.{free_of}
use Rattle.calls.specs.Grow.{grow_of}
use Rattle.calls.specs.Shrink.{shrink_of}
use Rattle.calls.specs.Token.{token_of, with_token_of, cancel_of}
use Rattle.calls.specs.Resize.{resize_of}
use Rattle.calls.proofs.Keeping.{given-region, answered-region}
use Rattle.calls.proofs.StaysSound.{allocate-sound, with-token-sound, grow-sound, shrink-sound, resize-sound, free-sound, cancel-sound}
use Rattle.requests.specs.Request.{Request, allocate, free, grow, shrink, reset, set_limit, no_limit, allocate_with_token, cancel, resize}
use Rattle.requests.specs.Run.{run_in}

pub run_sound : (r : Request) (a : Arena) (bytes : List ℕ) → sound_of a ≡ true → sound_of (run_in r a bytes).memory.arena ≡ true
unfolding run_in
run_sound (allocate size align) a bytes s = allocate-sound a s (length bytes) size align
run_sound (free offset size align) a bytes s = free-sound a s offset size align
run_sound (grow offset old old_align new new_align) a bytes s = grow-sound a s (length bytes) offset old old_align new new_align
run_sound (shrink offset old old_align new new_align) a bytes s = shrink-sound a s (length bytes) offset old old_align new new_align
run_sound reset a bytes s = reset-sound a s
run_sound (set_limit limit) a bytes s = set-limit-sound a limit s
run_sound no_limit a bytes s = no-limit-sound a s
run_sound (allocate_with_token size align) a bytes s = with-token-sound a s (length bytes) size align
run_sound (cancel offset count pointer) a bytes s = cancel-sound a s offset (token_of count pointer)
run_sound (resize offset old align new) a bytes s = resize-sound a s (length bytes) offset old align new

pub run-region : (r : Request) (a : Arena) (bytes : List ℕ) → (run_in r a bytes).memory.arena.head.region ≡ a.head.region
unfolding run_in holding allocate_of free_of grow_of shrink_of reset_of set_limit_of no_limit_of with_token_of cancel_of resize_of
run-region (allocate size align) a bytes = given-region _ a _
run-region (free offset size align) a bytes = answered-region _ a _ refl
run-region (grow offset old old_align new new_align) a bytes = given-region _ a _
run-region (shrink offset old old_align new new_align) a bytes = given-region _ a _
run-region reset a bytes = answered-region _ a _ refl
run-region (set_limit limit) a bytes = answered-region _ a _ refl
run-region no_limit a bytes = answered-region _ a _ refl
run-region (allocate_with_token size align) a bytes = given-region _ a _
run-region (cancel offset count pointer) a bytes = answered-region _ a _ refl
run-region (resize offset old align new) a bytes = given-region _ a _
