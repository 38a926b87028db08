-- Allocate, allocate with a token, copy in and fill keep the invariant: each is one fresh block, and writes in that block alone. Assumes nothing.
use Prim.Native.Nat.{ℕ, ◌+◌, ◌≤◌}
use mathlib.Core.List.{List, ◌∷◌}
use Rattle.std.specs.Prelude.{Option, None, Some, Ok}
use mathlib.Core.Path.{◌≡◌, refl, sym, ap, subst}
use lib.ListN.{length, replicate, length-replicate}
use Rattle.arena.specs.Record.{held_of, holding}
use Rattle.arena.specs.Refusals.{refused_by, Given}
use Rattle.calls.specs.declared.Token.{Token}
use Rattle.calls.specs.Allocate.{Taken, allocate_in, request_tests, allocate_of}
use Rattle.calls.specs.Token.{token_for, token_given, with_token_of}
use Rattle.calls.specs.Write.{copy_in_bytes, fill_bytes}
use Rattle.calls.proofs.Results.{allocate-result}
use Rattle.calls.proofs.Touching.{OnlyIn, only_none}
use Rattle.calls.proofs.Carrying.{Copied, copy-in-copies, fill-fills}
use Rattle.sequence.specs.Ledger.{Live, block, unknown}
use Rattle.sequence.specs.History.{State, state_of, allocate, with_token, copy_in, fill, step}
use Rattle.sequence.specs.Demand.{Holds}
use Rattle.sequence.proofs.Known.{known_same}
use Rattle.sequence.proofs.Keeping.{holds-unknown, holds-known}
use Rattle.sequence.proofs.Giving.{Issued, unissued, issued, give}
use Rattle.sequence.proofs.Spaces.{space_of}
use Rattle.sequence.proofs.Invariant.{Invariant, settled, giving-keeps, unchanged}

module _ (s : State) (inv : Invariant s) where
  -- a fresh block, and the bytes written in it
  fresh : (size align : ℕ) {put : List (Option ℕ)} {token : Option Token} (after : List ℕ) (t : Taken) →
      refused_by (request_tests s.arena (length s.bytes) size align) ≡ None →
      allocate_in s.arena.head (held_of s.arena) size align ≡ Some t →
      Issued (held_of s.arena) token →
      OnlyIn s.bytes after t.offset (t.offset + size) →
      (t.offset + size ≤ length s.bytes → Holds after (block t.offset size align put token)) →
      Invariant (state_of (holding s.arena.head t.chunks) after (block t.offset size align put token ∷ s.ledger))
  fresh size align {put} {token} after t r o i only holds =
      let result = allocate-result s.arena (length s.bytes) size align r o in
      let request = result.request in
      let (top, good) = give size align request.size_bound request.align_allowed only (holds result.inside) inv.good result.served i in
      settled (space_of (block t.offset size align put token) top ∷ inv.spaces) good
      (ap (λ (l : List Live). block t.offset size align put token ∷ l) inv.same)

  pub allocate-keeps : (size align : ℕ) → Invariant (step s (allocate size align))
  unfolding step allocate_of
  allocate-keeps size align =
      giving-keeps s inv s.ledger _ _ _ _ (λ x e. refl)
      (λ t r o e.
      fresh size align s.bytes t r o unissued (only_none s.bytes t.offset (t.offset + size)) (holds-unknown s.bytes t.offset size align None))

  -- the token of a served call is the one that the chunks before it issue
  token-issued : {offset : ℕ} (g : Given) → g ≡ Ok offset → Issued (held_of s.arena) (Some (token_given g (token_for (held_of s.arena))))
  unfolding token_given
  token-issued g e = subst (λ (x : Given). Issued (held_of s.arena) (Some (token_given x (token_for (held_of s.arena))))) (sym e) issued

  pub token-keeps : (size align : ℕ) → Invariant (step s (with_token size align))
  unfolding step with_token_of allocate_of
  token-keeps size align =
      giving-keeps s inv s.ledger s.bytes (λ offset. block offset size align (unknown size) (Some (with_token_of s.arena (length s.bytes) size align).token))
      _ _ (λ x e. refl)
      (λ t r o e.
      fresh size align s.bytes t r o (token-issued (allocate_of s.arena (length s.bytes) size align).answer e)
      (only_none s.bytes t.offset (t.offset + size))
      (holds-unknown s.bytes t.offset size align (Some (with_token_of s.arena (length s.bytes) size align).token)))

  pub copy-keeps : (source : List ℕ) (align : ℕ) → Invariant (step s (copy_in source align))
  unfolding step copy_in_bytes allocate_of
  copy-keeps source align =
      giving-keeps s inv s.ledger _ _ _ _ (λ x. unchanged _ _)
      (λ t r o e.
      let copied = copy-in-copies s.arena s.bytes align t.offset source e in
      fresh (length source) align (copy_in_bytes s.arena s.bytes source align) t r o unissued copied.only
      (λ l. holds-known t.offset align source None copied))

  -- a fill is a copy of one byte, again and again
  filled : {after : List ℕ} (size align value at : ℕ) → Copied s.bytes after at (replicate size value) →
      OnlyIn s.bytes after at (at + size) × Holds after (block at size align (replicate size (Some value)) None)
  filled {after} size align value at copied =
      let long : length (replicate size value) ≡ size = length-replicate size value in (
        subst (λ (n : ℕ). OnlyIn s.bytes after at (at + n)) long copied.only,
        subst (λ (n : ℕ). Holds after (block at n align (replicate size (Some value)) None)) long
            (subst (λ (put : List (Option ℕ)). Holds after (block at (length (replicate size value)) align put None)) (known_same size value)
            (holds-known at align (replicate size value) None copied)),
      )

  pub fill-keeps : (size align value : ℕ) → Invariant (step s (fill size align value))
  unfolding step fill_bytes allocate_of
  fill-keeps size align value =
      giving-keeps s inv s.ledger _ _ _ _ (λ x. unchanged _ _)
      (λ t r o e.
      let (only, holds) = filled size align value t.offset (fill-fills s.arena s.bytes align t.offset size value e) in
      fresh size align (fill_bytes s.arena s.bytes size align value) t r o unissued only (λ l. holds))
