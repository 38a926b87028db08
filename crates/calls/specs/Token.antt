-- Document 01, "Allocate with a token" and "Cancel".
use Rattle.std.specs.Prelude.{ℕ, Bool, false, ◌&&◌, ◌||◌, not, cond, List, [], ◌∷◌, length, ltb, eqb, Err, Ok, ⊤}
use Rattle.rounding.specs.Round.{multiple}
use Rattle.arena.specs.declared.Arena.{Arena}
use Rattle.arena.specs.declared.Chunk.{Chunk}
use Rattle.arena.specs.declared.Outcome.{Outcome}
use Rattle.arena.specs.declared.Refusal.TheVariants.{Token as TOKEN}
use Rattle.arena.specs.Record.{end_of, with_pointer, held_of, holding}
use Rattle.arena.specs.Refusals.{Test, test, refused_by, answered, Given}
use Rattle.arena.specs.Sound.{state_test}
use Rattle.calls.specs.declared.Token.{Token}
use Rattle.calls.specs.declared.TokenAllocation.{TokenAllocation}
use Rattle.calls.specs.Allocate.{allocate_of}

abbrev pub token_of : ℕ → ℕ → Token
token_of count pointer = record { count = count; pointer = pointer }

-- "records the chunk count and current pointer before (0 with no chunk)"
unfoldable pub token_for : List Chunk → Token
token_for [] = token_of 0 0
token_for (c ∷ cs) = token_of (length (c ∷ cs)) c.pointer

-- a refused one says 0 and 0
unfoldable pub token_given : Given → Token → Token
token_given (Ok offset) token = token
token_given (Err r) token = token_of 0 0

unfoldable pub with_token_of : Arena → ℕ → ℕ → ℕ → TokenAllocation
with_token_of a lent size align =
    record {
      answer = (allocate_of a lent size align).answer;
      token = token_given (allocate_of a lent size align).answer (token_for (held_of a));
      arena = (allocate_of a lent size align).arena;
    }

-- "with a chunk, .. block at the pointer, and the recorded pointer below the pointer, above the end, or off the minimum"
unfoldable pub off_current : ℕ → List Chunk → ℕ → ℕ → Bool
off_current minimum [] offset pointer = false
off_current minimum (c ∷ cs) offset pointer =
    eqb offset c.pointer && (ltb pointer c.pointer || (ltb (end_of c) pointer || not (multiple minimum pointer)))

-- 7, TOKEN: "count above the present count (also with no chunk); or, with a chunk, equal, .."
unfoldable pub bad_token : ℕ → List Chunk → ℕ → Token → Bool
bad_token minimum cs offset token =
    ltb (length cs) token.count || eqb token.count (length cs) && off_current minimum cs offset token.pointer

-- "If the token's count equals the present count, the pointer returns to the recorded one; if smaller, to the current end"
unfoldable pub rewound : List Chunk → ℕ → Token → List Chunk
rewound [] offset token = []
rewound (c ∷ cs) offset token =
    cond (eqb offset c.pointer)
    (with_pointer c (cond (eqb token.count (length (c ∷ cs))) token.pointer (end_of c)) ∷ cs)
    (c ∷ cs)

abbrev pub cancel_tests : Arena → ℕ → Token → List Test
cancel_tests a offset token = state_test a ∷ (test TOKEN (bad_token a.head.minimum (held_of a) offset token) ∷ [])

unfoldable pub cancel_of : Arena → ℕ → Token → Outcome ⊤
cancel_of a offset token =
    answered (refused_by (cancel_tests a offset token)) a (holding a.head (rewound (held_of a) offset token))
