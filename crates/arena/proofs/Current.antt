-- The current chunk is the first of the held ones, and stands at the last held place. Assumes nothing.
use Prim.Native.Nat.{ℕ, ◌-◌, ◌<◌}
use mathlib.Core.List.{List, [], ◌∷◌}
use mathlib.Core.Path.{◌≡◌, refl, ap}
use Rattle.std.specs.Prelude.{None, Some}
use Rattle.std.proofs.lemmas.Option.{none-some, same_Some}
use Rattle.rounding.proofs.Optional.{some-none}
use Rattle.arena.specs.declared.Chunk.{Chunk}
use Rattle.arena.specs.Record.{chunk_at, chunks_of}
use Rattle.arena.specs.Inner.{current_of}
use Rattle.arena.proofs.View.{chunks-newest}

module _ (starts sizes pointers : List ℕ) where
  pub current-none-held : {k : ℕ} → k ≡ 0 → current_of (chunks_of starts sizes pointers k) ≡ None
  unfolding current_of chunks_of
  current-none-held e = rw e

  pub current-last : (k : ℕ) → 0 < k → current_of (chunks_of starts sizes pointers k) ≡ Some (chunk_at starts sizes pointers (k - 1))
  unfolding current_of
  current-last k l = rw (chunks-newest starts sizes pointers k l)

-- with no current chunk none is held, and any other is the first of the list
pub none-current : (cs : List Chunk) → current_of cs ≡ None → cs ≡ []
unfolding current_of
none-current [] e = refl
none-current (c ∷ cs) e = absurd (some-none c e)

pub record Current (cs : List Chunk) (c : Chunk) : Type 0 where
  pub rest : List Chunk
  pub newest : cs ≡ c ∷ rest

pub current-is : (cs : List Chunk) {c : Chunk} → current_of cs ≡ Some c → Current cs c
unfolding current_of
current-is [] {c} e = absurd (none-some c e)
current-is (d ∷ cs) {c} e = record { rest = cs; newest = ap (λ (x : Chunk). x ∷ cs) (same_Some d c e) }
