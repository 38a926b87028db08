-- Every call leaves a sound record sound: refused, it leaves the record; else the chunks that it leaves stand. Assumes nothing.
use Prim.Native.Nat.{ℕ, ◌+◌}
use native.Mathlib.Nat.{le_refl}
use native.Mathlib.Omega.{arith}
use mathlib.Core.Bool.{Bool, true, false, cond, not, ◌&&◌, ◌||◌}
use mathlib.Core.List.{List, [], ◌∷◌}
use Rattle.std.specs.Prelude.{Option, None, Some}
use mathlib.Core.Path.{◌≡◌, refl, sym, ap, ◌∙◌}
use lib.Dec.{ltb, eqb}
use lib.ListN.{length}
use borrow.Author.Tests.{eqb-true, ltb-false, not-false}
use Rattle.rounding.specs.Round.{multiple, round_up}
use Rattle.rounding.proofs.Tests.{or-false-left, or-false-right}
use Rattle.rounding.proofs.Rounding.{multiple-dvd, up-at-least, up_least, up_multiple}
use Rattle.rounding.proofs.Powers.{power-positive}
use Rattle.arena.specs.declared.Head.{Head}
use Rattle.arena.specs.declared.Arena.{Arena}
use Rattle.arena.specs.declared.Chunk.{Chunk}
use Rattle.arena.specs.declared.Refusal.{Refusal}
use Rattle.arena.specs.Record.{end_of, with_pointer, held_of, holding}
use Rattle.arena.specs.Refusals.{answered}
use Rattle.arena.specs.Sound.{sound_of}
use Rattle.arena.proofs.Soundness.{sound-open, sound-shut}
use Rattle.arena.proofs.Standing.{Standing, sound-standing, standing-sound, standing-repointed, end-on-minimum}
use Rattle.calls.specs.declared.Token.{Token}
use Rattle.calls.specs.Allocate.{Taken, given, allocate_of}
use Rattle.calls.specs.Free.{freed, free_of}
use Rattle.calls.specs.Grow.{grow_of}
use Rattle.calls.specs.Shrink.{shrink_of}
use Rattle.calls.specs.Resize.{resize_of}
use Rattle.calls.specs.Token.{off_current, bad_token, rewound, cancel_of, with_token_of}
use Rattle.calls.proofs.Passing.{free-passes, cancel-passes}
use Rattle.calls.proofs.Results.{allocate-result, grow-result, shrink-result, resize-result}
use Rattle.calls.proofs.Blocks.{Lies, acceptable-lies, lies-current}

-- the pointer goes up to the end of the block, on the minimum
pub freed-stands : {h : Head} (cs : List Chunk) (offset size : ℕ) → Standing h cs → Lies offset size cs → Standing h (freed h.minimum cs offset size)
unfolding freed
freed-stands [] offset size s l = s
freed-stands {h} (c ∷ cs) offset size s l = go (eqb offset c.pointer) refl
  where
    go : (b : Bool) → eqb offset c.pointer ≡ b → Standing h (cond b (with_pointer c (round_up (offset + size) h.minimum) ∷ cs) (c ∷ cs))
    go false e = s
    go true e =
        let here = eqb-true offset c.pointer e in
        let chunk = s.chunks.0 in
        let above = up-at-least (offset + size) h.minimum (power-positive s.settings.minimum-power) in
        standing-repointed (round_up (offset + size) h.minimum) s (omega (arith, chunk.above-start))
        (up_least (offset + size) h.minimum (end-on-minimum c s.settings chunk.start-multiple chunk.size-multiple) (lies-current s l here))
        (up_multiple (offset + size) h.minimum)

-- where a token passes, the pointer that it recorded lies in the current chunk, on the minimum
pub rewound-stands : {h : Head} (cs : List Chunk) (offset : ℕ) (token : Token) → Standing h cs → bad_token h.minimum cs offset token ≡ false →
    Standing h (rewound cs offset token)
unfolding bad_token off_current rewound
rewound-stands [] offset token s t = s
rewound-stands {h} (c ∷ cs) offset token s t = go (eqb offset c.pointer) refl (eqb token.count (length (c ∷ cs))) refl
  where
    chunk-tests : Bool
    chunk-tests = ltb token.pointer c.pointer || (ltb (end_of c) token.pointer || not (multiple h.minimum token.pointer))

    back : eqb offset c.pointer ≡ true → eqb token.count (length (c ∷ cs)) ≡ true → chunk-tests ≡ false
    back here same =
        ap (λ (b : Bool). b && chunk-tests) (sym here)
        ∙ ap (λ (b : Bool). b && (eqb offset c.pointer && chunk-tests)) (sym same)
        ∙ or-false-right (ltb (length (c ∷ cs)) token.count) _ t

    go : (b : Bool) → eqb offset c.pointer ≡ b → (same : Bool) → eqb token.count (length (c ∷ cs)) ≡ same →
        Standing h (cond b (with_pointer c (cond same token.pointer (end_of c)) ∷ cs) (c ∷ cs))
    go false e same q = s
    go true e false q =
        let chunk = s.chunks.0 in
        standing-repointed (end_of c) s (omega arith) (le_refl (end_of c)) (end-on-minimum c s.settings chunk.start-multiple chunk.size-multiple)
    go true e true q =
        let passed = back e q in
        let below = ltb-false token.pointer c.pointer (or-false-left (ltb token.pointer c.pointer) _ passed) in
        let rest = or-false-right (ltb token.pointer c.pointer) _ passed in
        let high = ltb-false (end_of c) token.pointer (or-false-left (ltb (end_of c) token.pointer) _ rest) in
        let whole = not-false (multiple h.minimum token.pointer) (or-false-right (ltb (end_of c) token.pointer) _ rest) in
        standing-repointed token.pointer s (omega (arith, s.chunks.0.above-start)) high (multiple-dvd h.minimum token.pointer whole)

module _ (a : Arena) (sound : sound_of a ≡ true) where
  standing : Standing a.head (held_of a)
  standing = sound-standing (sound-open a sound)

  given-sound : (r : Option Refusal) (o : Option Taken) → ((t : Taken) → r ≡ None → o ≡ Some t → Standing a.head t.chunks) →
      sound_of (given r a o).arena ≡ true
  unfolding given
  given-sound (Some r) o h = sound
  given-sound None None h = sound
  given-sound None (Some t) h = sound-shut (standing-sound (h t refl refl))

  answered-sound : (r : Option Refusal) (cs : List Chunk) → (r ≡ None → Standing a.head cs) → sound_of (answered r a (holding a.head cs)).arena ≡ true
  unfolding answered
  answered-sound (Some r) cs h = sound
  answered-sound None cs h = sound-shut (standing-sound (h refl))

  pub allocate-sound : (lent size align : ℕ) → sound_of (allocate_of a lent size align).arena ≡ true
  unfolding allocate_of
  allocate-sound lent size align =
      given-sound _ _ (λ t r o. (allocate-result a lent size align r o).stands)

  pub with-token-sound : (lent size align : ℕ) → sound_of (with_token_of a lent size align).arena ≡ true
  unfolding with_token_of
  with-token-sound lent size align = allocate-sound lent size align

  pub grow-sound : (lent offset old old_align new new_align : ℕ) → sound_of (grow_of a lent offset old old_align new new_align).arena ≡ true
  unfolding grow_of
  grow-sound lent offset old old_align new new_align =
      given-sound _ _ (λ t r o. (grow-result a lent offset old old_align new new_align r o).stands)

  pub shrink-sound : (lent offset old old_align new new_align : ℕ) → sound_of (shrink_of a lent offset old old_align new new_align).arena ≡ true
  unfolding shrink_of
  shrink-sound lent offset old old_align new new_align =
      given-sound _ _ (λ t r o. (shrink-result a lent offset old old_align new new_align r o).stands)

  pub resize-sound : (lent offset old align new : ℕ) → sound_of (resize_of a lent offset old align new).arena ≡ true
  unfolding resize_of
  resize-sound lent offset old align new =
      given-sound _ _ (λ t r o. (resize-result a lent offset old align new r o).stands)

  pub free-sound : (offset size align : ℕ) → sound_of (free_of a offset size align).arena ≡ true
  unfolding free_of
  free-sound offset size align =
      answered-sound _ _
      (λ r. freed-stands (held_of a) offset size standing (acceptable-lies (held_of a) offset size align standing (free-passes a offset size align r).1))

  pub cancel-sound : (offset : ℕ) (token : Token) → sound_of (cancel_of a offset token).arena ≡ true
  unfolding cancel_of
  cancel-sound offset token =
      answered-sound _ _
      (λ r. rewound-stands (held_of a) offset token standing (cancel-passes a offset token r).1)
