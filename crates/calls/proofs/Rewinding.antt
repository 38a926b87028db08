-- A cancel undoes its allocation: right after it the chunks are those before, but that a chunk taken for it stays, with all its bytes free again.
-- Assumes nothing.
use Prim.Native.Nat.{ℕ, ◌<◌}
use native.Mathlib.Omega.{arith}
use mathlib.Core.List.{List, [], ◌∷◌}
use mathlib.Core.Path.{◌≡◌, refl, sym, ap, ◌∙◌}
use lib.ListN.{length}
use borrow.Author.Tests.{eq-eqb, ne_eqb}
use Rattle.arena.specs.declared.Chunk.{Chunk}
use Rattle.arena.specs.Record.{end_of, with_pointer}
use Rattle.calls.specs.declared.Token.{Token}
use Rattle.calls.specs.Allocate.{Taken}
use Rattle.calls.specs.Token.{token_for, rewound}
use Rattle.calls.proofs.Carving.{TakenFrom}

-- a token records the chunk count
pub token-count : (cs : List Chunk) → (token_for cs).count ≡ length cs
unfolding token_for
token-count [] = refl
token-count (c ∷ cs) = refl

-- the pointer is back at the recorded one where the count is the same, and at the end where it was smaller
pub rewound-same : (c : Chunk) (cs : List Chunk) (token : Token) → token.count ≡ length (c ∷ cs) →
    rewound (c ∷ cs) c.pointer token ≡ with_pointer c token.pointer ∷ cs
unfolding rewound
rewound-same c cs token e = rw (eq-eqb c.pointer c.pointer refl, eq-eqb token.count (length (c ∷ cs)) e)

pub rewound-smaller : (c : Chunk) (cs : List Chunk) (token : Token) → token.count < length (c ∷ cs) →
    rewound (c ∷ cs) c.pointer token ≡ with_pointer c (end_of c) ∷ cs
unfolding rewound
rewound-smaller c cs token l = rw (eq-eqb c.pointer c.pointer refl, ne_eqb token.count (length (c ∷ cs)) (λ e. omega arith))

module _ {minimum size align : ℕ} {t : Taken} (c : Chunk) (cs : List Chunk) (taken : TakenFrom minimum c cs size align t) where
  pub cancel-undoes : rewound t.chunks t.offset (token_for (c ∷ cs)) ≡ c ∷ cs
  unfolding token_for
  cancel-undoes =
      ap (λ (ds : List Chunk). rewound ds t.offset (token_for (c ∷ cs))) taken.chunks
      ∙ rewound-same (with_pointer c t.offset) cs (token_for (c ∷ cs)) refl

  -- the same where c was taken for it
  pub cancel-empties : c.pointer ≡ end_of c → rewound t.chunks t.offset (token_for cs) ≡ c ∷ cs
  cancel-empties e =
      ap (λ (ds : List Chunk). rewound ds t.offset (token_for cs)) taken.chunks
      ∙ rewound-smaller (with_pointer c t.offset) cs (token_for cs) (omega (arith, token-count cs))
      ∙ ap (λ (p : ℕ). with_pointer c p ∷ cs) (sym e)
