-- Tokens, case by case: which are bad, and where the pointer goes. Assumes nothing.
use Prim.Native.Nat.{ℕ, ◌≤◌, ◌<◌}
use mathlib.Core.Bool.{true, false, not}
use mathlib.Core.List.{List, [], ◌∷◌}
use mathlib.Core.Path.{◌≡◌, sym, ◌∙◌, ap}
use lib.ListN.{length}
use native.Mathlib.Omega.{arith}
use borrow.Author.Tests.{eq-eqb, ne_eqb, lt-ltb, le-ltb}
use Rattle.rounding.specs.Round.{multiple}
use Rattle.rounding.proofs.Tests.{or_left, true-not, false-not}
use Rattle.arena.specs.declared.Arena.{Arena}
use Rattle.arena.specs.declared.Chunk.{Chunk}
use Rattle.arena.specs.declared.Refusal.TheVariants.{State, Token as TOKEN}
use Rattle.arena.specs.Record.{end_of, held_of, holding}
use Rattle.arena.specs.Refusals.{Test, test, answered}
use Rattle.arena.specs.Sound.{sound_of, state_test}
use Rattle.arena.specs.Inner.{moved_to}
use Rattle.arena.proofs.Refusing.{refused-now, refused-later, none-applies}
use Rattle.calls.specs.declared.Token.{Token}
use Rattle.calls.specs.Token.{token_of, off_current, bad_token, rewound, cancel_tests, cancel_of}
use Rattle.calls.proofs.Rewinding.{rewound-same}
use Rattle.std.specs.Prelude.{Err, Ok}

-- the token by default is that of a refused allocation
pub no-token : {token : Token} → (token.count ≡ 0) × (token.pointer ≡ 0) → token ≡ token_of 0 0
no-token e = λ i. record { count = e.0 i; pointer = e.1 i }

module _ (minimum : ℕ) (cs : List Chunk) (offset : ℕ) (token : Token) where
  -- the counts: above is bad, below is not, and an equal one goes by the current chunk
  pub count-above : length cs < token.count → bad_token minimum cs offset token ≡ true
  unfolding bad_token
  count-above l = or_left _ (lt-ltb (length cs) token.count l)

  pub count-below : token.count < length cs → bad_token minimum cs offset token ≡ false
  unfolding bad_token
  count-below l =
      let differ : token.count ≡ length cs → ⊥ = λ e. omega arith in
      rw (le-ltb (length cs) token.count (omega arith), ne_eqb token.count (length cs) differ)

  pub count-equal : token.count ≡ length cs → bad_token minimum cs offset token ≡ off_current minimum cs offset token.pointer
  unfolding bad_token
  count-equal e = rw (le-ltb (length cs) token.count (omega arith), eq-eqb token.count (length cs) e)

-- the recorded pointer against the current chunk, where the block is at its pointer
module _ (minimum : ℕ) (c : Chunk) (cs : List Chunk) (offset pointer : ℕ) where
  pub off-elsewhere : (offset ≡ c.pointer → ⊥) → off_current minimum (c ∷ cs) offset pointer ≡ false
  unfolding off_current
  off-elsewhere g = rw (ne_eqb offset c.pointer g)

  pub off-below : offset ≡ c.pointer → pointer < c.pointer → off_current minimum (c ∷ cs) offset pointer ≡ true
  unfolding off_current
  off-below e l = rw (eq-eqb offset c.pointer e, lt-ltb pointer c.pointer l)

  pub off-above : offset ≡ c.pointer → c.pointer ≤ pointer → end_of c < pointer → off_current minimum (c ∷ cs) offset pointer ≡ true
  unfolding off_current
  off-above e l g = rw (eq-eqb offset c.pointer e, le-ltb pointer c.pointer l, lt-ltb (end_of c) pointer g)

  pub off-minimum : offset ≡ c.pointer → c.pointer ≤ pointer → pointer ≤ end_of c → off_current minimum (c ∷ cs) offset pointer ≡ not (multiple minimum pointer)
  unfolding off_current
  off-minimum e l g = rw (eq-eqb offset c.pointer e, le-ltb pointer c.pointer l, le-ltb (end_of c) pointer g)

module _ {cs : List Chunk} (offset : ℕ) (token : Token) where
  pub rewound-none : cs ≡ [] → rewound cs offset token ≡ cs
  unfolding rewound
  rewound-none e = ap (λ (ds : List Chunk). rewound ds offset token) e ∙ sym e

  module _ {c : Chunk} {ds : List Chunk} (e : cs ≡ c ∷ ds) where
    pub rewound-elsewhere : (offset ≡ c.pointer → ⊥) → rewound cs offset token ≡ cs
    unfolding rewound
    rewound-elsewhere g = rw (e, ne_eqb offset c.pointer g)

    pub rewound-recorded : offset ≡ c.pointer → token.count ≡ length cs → rewound cs offset token ≡ moved_to cs token.pointer
    unfolding moved_to
    rewound-recorded p q = rw (e, p) (rewound-same c ds token (q ∙ ap length e))

    pub rewound-end : offset ≡ c.pointer → (token.count ≡ length cs → ⊥) → rewound cs offset token ≡ moved_to cs (end_of c)
    unfolding rewound moved_to
    rewound-end p g = rw (e, eq-eqb offset c.pointer p, ne_eqb token.count (length (c ∷ ds)) (λ q. g (q ∙ sym (ap length e))))

-- what cancel answers, test by test
module _ (a : Arena) (offset : ℕ) (token : Token) where
  abbrev back : Arena
  back = holding a.head (rewound (held_of a) offset token)

  abbrev token_test : Test
  token_test = test TOKEN (bad_token a.head.minimum (held_of a) offset token)

  pub cancel-state : sound_of a ≡ false → cancel_of a offset token ≡ record { answer = Err State; arena = a }
  unfolding cancel_of answered
  cancel-state s = ap (λ r. answered r a back) (refused-now (state_test a) (token_test ∷ []) (false-not s))

  pub cancel-token : sound_of a ≡ true → bad_token a.head.minimum (held_of a) offset token ≡ true →
      cancel_of a offset token ≡ record { answer = Err TOKEN; arena = a }
  unfolding cancel_of answered
  cancel-token s t = ap (λ r. answered r a back) (refused-later (state_test a) (token_test ∷ []) (true-not s) ∙ refused-now token_test [] t)

  pub cancel-works : sound_of a ≡ true → bad_token a.head.minimum (held_of a) offset token ≡ false →
      cancel_of a offset token ≡ record { answer = (Ok tt); arena = back }
  unfolding cancel_of answered
  cancel-works s t = ap (λ r. answered r a back) (none-applies (cancel_tests a offset token) (true-not s, (t, tt)))
