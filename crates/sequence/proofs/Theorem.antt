-- Demand 3, for every new arena and every list of calls: the invariant holds after the calls, and what is demanded follows from it. Assumes nothing.
use Prim.Native.Nat.{ℕ, suc, ◌+◌, ◌≤◌, ◌∣◌}
use native.Mathlib.Omega.{arith}
use mathlib.Core.Bool.{Bool, true, false, not, cond, ◌&&◌, ◌||◌}
use mathlib.Core.List.{List}
use mathlib.Core.Logic.{inl, inr}
use mathlib.Core.Path.{◌≡◌, refl, sym, ap, subst, ◌∙◌}
use lib.Dec.{leb, ltb, eqb}
use lib.ListN.{length}
use borrow.Author.Tests.{le-ltb, le-leb, eqb-true}
use Rattle.std.specs.Prelude.{Option, None as none, Some as some}
use Rattle.rounding.specs.Every.{Each, any}
use Rattle.rounding.specs.Round.{multiple}
use Rattle.rounding.proofs.Tests.{and_both, or_left, or_right, or-neither, true-not}
use Rattle.rounding.proofs.Rounding.{dvd-multiple}
use Rattle.arena.specs.declared.Arena.{Arena}
use Rattle.arena.specs.declared.Chunk.{Chunk}
use Rattle.arena.specs.Record.{end_of, held_of}
use Rattle.rounding.proofs.Every.{every_map}
use Rattle.arena.specs.Sound.{sound_of}
use Rattle.arena.proofs.Soundness.{align-shut, sound-shut}
use Rattle.calls.specs.declared.Token.{Token}
use Rattle.calls.specs.Tests.{has_block, acceptable}
use Rattle.calls.specs.Token.{off_current, bad_token}
use Rattle.sequence.specs.Ledger.{Live}
use Rattle.sequence.specs.History.{State, created}
use Rattle.sequence.specs.Demand.{Some, EachTwo, Aligned, Inside, SharesNone, Holds, Accepted, TokenAccepted, Demand, EverySequence}
use Rattle.sequence.specs.Room.{RoomOfBlock}
use Rattle.sequence.specs.Heard.{HeardOfBlock}
use Rattle.sequence.proofs.Lists.{two-among, every-mapped, two-mapped}
use Rattle.sequence.proofs.Spaces.{Space, Disjoint, In, Placed, current, older, TokenFits, same-chunk, new-chunk, placed-room}
use Rattle.sequence.proofs.Moves.{Sits}
use Rattle.sequence.proofs.Invariant.{Invariant}
use Rattle.sequence.proofs.Hearing.{requests-heard, block-heard}
use Rattle.sequence.proofs.Room.{room-of-requests, room-of-block}
use Rattle.sequence.proofs.Histories.{created-keeps, run-keeps}

module _ {minimum offset size top : ℕ} {token : Option Token} where
  -- a space lies in one held chunk, and its block with it
  in_one_chunk : {cs : List Chunk} → Placed minimum offset size top token cs → Some (λ c. (c.start ≤ offset) × (offset + size ≤ end_of c)) cs
  in_one_chunk (current p) = inl (p.fits.low, omega (arith, p.fits.room, p.fits.high))
  in_one_chunk (older p) = inr (in_one_chunk p)

  -- its block is found there
  has_block_lem : (c : Chunk) {k : ℕ} → In minimum k c.start (end_of c) c.pointer offset size top token → has_block offset size c ≡ true
  unfolding has_block
  has_block_lem c p = go (eqb size 0) refl
    where
      go : (b : Bool) → eqb size 0 ≡ b →
          cond b (leb c.start offset && leb offset (end_of c)) (leb c.pointer offset && leb (offset + size) (end_of c)) ≡ true
      go true e =
          and_both (le-leb c.start offset p.fits.low) (le-leb offset (end_of c) (omega (arith, p.fits.room, p.fits.high)))
      go false e =
          let some_bytes : ¬ (size ≡ 0) = λ z. let y : true ≡ false = sym (ap (λ (n : ℕ). eqb n 0) z) ∙ e in let x : ◌≡◌ {A = ℕ} 0 1 = cc in omega arith in
          and_both
          (le-leb c.pointer offset (p.fits.above (omega (arith, p.fits.room))))
          (le-leb (offset + size) (end_of c) (omega (arith, p.fits.room, p.fits.high)))

  found : {cs : List Chunk} → Placed minimum offset size top token cs → any (has_block offset size) cs ≡ true
  unfolding any
  found (current {c} {cs} p) = or_left (any (has_block offset size) cs) (has_block_lem c p)
  found (older {c} {cs} p) = or_right (has_block offset size c) (found p)

-- a live token's count is at most the number of its block's chunk
count_bound : {k end top : ℕ} {token : Token} → TokenFits k end top (some token) → token.count ≤ k
count_bound (same-chunk p q) = omega arith
count_bound (new-chunk p q) = omega arith

count-below : {minimum offset size top : ℕ} {token : Token} {cs : List Chunk} → Placed minimum offset size top (some token) cs → token.count ≤ length cs
count-below (current p) = count_bound p.token-fits
count-below (older p) = omega (arith, count-below p)

not-both : (a b : Bool) → (a ≡ true → b ≡ false) → (a && b) ≡ false
not-both true b h = h refl
not-both false b h = refl

module _ {minimum offset size top : ℕ} {token : Token} where
  -- with as many chunks as its count, it says the top of a space in the current chunk
  on-current : {cs : List Chunk} → Placed minimum offset size top (some token) cs → token.count ≡ length cs →
      off_current minimum cs offset token.pointer ≡ false
  unfolding off_current
  on-current (current {c} {cs} p) e = not-both (eqb offset c.pointer) _ (λ here. back p.token-fits (eqb-true offset c.pointer here))
    where
      back : TokenFits (suc (length cs)) (end_of c) top (some token) → offset ≡ c.pointer →
          (ltb token.pointer c.pointer || (ltb (end_of c) token.pointer || not (multiple minimum token.pointer))) ≡ false
      back (new-chunk q r) here = absurd (omega arith)
      back (same-chunk q r) here =
          or-neither (le-ltb token.pointer c.pointer (omega (arith, p.fits.room)))
          (or-neither (le-ltb (end_of c) token.pointer (omega (arith, p.fits.high)))
          (true-not (dvd-multiple minimum (subst (λ (x : ℕ). minimum ∣ x) (sym r) p.fits.top-on-minimum))))
  on-current (older p) e = absurd (omega (arith, count-below p))

  token-good : {cs : List Chunk} → Placed minimum offset size top (some token) cs → bad_token minimum cs offset token ≡ false
  unfolding bad_token
  token-good {cs} p =
      or-neither (le-ltb (length cs) token.count (count-below p))
      (not-both (eqb token.count (length cs)) (off_current minimum cs offset token.pointer) (λ same. on-current p (eqb-true token.count (length cs) same)))

token-passes : (a : Arena) (offset size top : ℕ) (token : Option Token) → Placed a.head.minimum offset size top token (held_of a) →
    TokenAccepted a offset token
token-passes a offset size top none p = tt
token-passes a offset size top (some token) p = token-good p

-- of one live block
block-accepted : (a : Arena) (bytes : List ℕ) (u : Space) → Sits a.head.minimum (held_of a) bytes u → Accepted a u.live
unfolding acceptable
block-accepted a bytes u x = and_both (dvd-multiple u.live.align x.shape.aligned) (found x.placed)

pub demanded : {s : State} → Invariant s → Demand s
demanded {s} inv =
    record {
      aligned = each Aligned (λ u x. x.shape.aligned);
      inside = each (Inside (held_of s.arena)) (λ u x. in_one_chunk x.placed);
      apart =
          subst (EachTwo SharesNone) inv.same
          (two-mapped (λ (u : Space). u.live) SharesNone inv.spaces
          (two-among (Sits s.arena.head.minimum (held_of s.arena) s.bytes) Disjoint (λ u v. SharesNone u.live v.live)
          (λ u v x y d n a b. d n a.0 (omega (arith, placed-room x.placed)) b.0 (omega (arith, placed-room y.placed)))
          inv.spaces inv.good.sits inv.good.apart));
      holds = each (Holds s.bytes) (λ u x. x.holds);
      accepted = each (Accepted s.arena) (block-accepted s.arena s.bytes);
      token_accepted =
          each (λ b. TokenAccepted s.arena b.offset b.token)
          (λ u x. token-passes s.arena u.live.offset u.live.size u.top u.live.token x.placed);
      room = room-of-requests s.arena inv.good.standing (length s.bytes);
      room_of_blocks = each (RoomOfBlock s.arena (length s.bytes)) (λ u x. room-of-block s.arena inv.good.standing (length s.bytes) u.live);
      heard = requests-heard s.arena (length s.bytes) sound inv.good.region;
      heard_of_blocks =
          each (HeardOfBlock s.arena (length s.bytes))
          (λ u x.
          block-heard s.arena (length s.bytes) sound inv.good.region u.live (x.shape.size_bound, align-shut x.shape.align_allowed)
          (block-accepted s.arena s.bytes u x)
          (token-passes s.arena u.live.offset u.live.size u.top u.live.token x.placed));
      sound = sound;
      few_chunks = inv.good.standing.few;
      region_length = inv.good.region;
    }
  where
    sound : sound_of s.arena ≡ true
    sound = sound-shut inv.sound

    each : (P : Live → Type 0) → ((u : Space) → Sits s.arena.head.minimum (held_of s.arena) s.bytes u → P u.live) → Each P s.ledger
    each P f =
        subst (Each P) inv.same
        (every-mapped (λ (u : Space). u.live) P inv.spaces
        (every_map f inv.spaces inv.good.sits))

-- the theorem
pub demand-met : EverySequence
demand-met minimum capacity bytes served calls =
    demanded (run-keeps (created minimum capacity bytes) (created-keeps minimum capacity bytes served) calls)
