-- A creation that is served makes a sound record; reset and the limit calls leave a sound record sound. Assumes nothing.
use Prim.Native.Nat.{ℕ}
use native.Mathlib.Omega.{arith}
use mathlib.Core.Bool.{Bool, true, false, cond}
use mathlib.Core.List.{List, [], ◌∷◌}
use Rattle.std.specs.Prelude.{Option, None, Some, option_map}
use mathlib.Core.Path.{◌≡◌, refl, subst}
use lib.Dec.{eqb}
use borrow.Author.Tests.{ltb-false, not-false}
use Rattle.arena.specs.declared.Head.{Head}
use Rattle.arena.specs.declared.Arena.{Arena}
use Rattle.arena.specs.declared.Chunk.{Chunk}
use Rattle.std.specs.Prelude.{Ok}
use Rattle.arena.specs.declared.Refusal.{Refusal}
use Rattle.arena.specs.Numbers.{most, default_size}
use Rattle.arena.specs.Record.{held_of, holding}
use Rattle.arena.specs.Refusals.{refused_by, answered}
use Rattle.arena.specs.Sound.{allowed_minimum, limit_formed, sound_of}
use Rattle.arena.specs.Ladder.{rung_chunk}
use Rattle.arena.specs.Creation.{fresh_head, refused_creation, creation_tests, first_chunks, created_with, creation, created_of}
use Rattle.arena.specs.Creation.{limited_to, set_limit_of, no_limit_of, kept_by_reset, reset_of}
use Rattle.arena.proofs.Refusing.{not-refused}
use Rattle.arena.proofs.Soundness.{Sound, minimum-open, sound-open, sound-shut}
use Rattle.arena.proofs.Standing.{Standing, sound-standing, standing-sound, standing-pushed, standing-alone}
use Rattle.arena.proofs.Served.{rung-fresh}

-- no chunk at all
empty-standing : (region minimum capacity : ℕ) → refused_by (creation_tests region minimum capacity) ≡ None → Standing (fresh_head region minimum) []
unfolding limit_formed
empty-standing region minimum capacity e =
    let passed = not-refused (creation_tests region minimum capacity) e in
    let allowed = minimum-open minimum (not-false (allowed_minimum minimum) passed.1.1.0) in
    record {
      settings =
          record {
            minimum-power = allowed.power;
            minimum-bound = allowed.bound;
            region_bound = ltb-false most region passed.0;
            limit-formed = refl;
          };
      few = omega arith;
      chunks = tt;
      apart = tt;
    }

first-standing : (h : Head) (capacity : ℕ) → Standing h [] → {cs : List Chunk} → first_chunks h capacity ≡ Some cs → Standing h cs
unfolding first_chunks
first-standing h capacity s {cs} e = go (eqb capacity 0) (rung_chunk h [] capacity h.minimum default_size) refl e
  where
    go : (b : Bool) (o : Option Chunk) → rung_chunk h [] capacity h.minimum default_size ≡ o →
        cond b (Some []) (option_map (λ c. c ∷ []) o) ≡ Some cs → Standing h cs
    go true o p q = let same : [] ≡ cs = cc in subst (Standing h) same s
    go false None p q = absurd (let z : ◌≡◌ {A = ℕ} 0 1 = cc in omega arith)
    go false (Some c) p q =
        let same : c ∷ [] ≡ cs = cc in
        subst (Standing h) same (standing-pushed s (rung-fresh h [] capacity default_size s.settings.minimum-power p))

-- a creation that is served holds chunks that stand
pub record Started (region minimum : ℕ) (a : Arena) : Type 0 where
  pub chunks : List Chunk
  pub holds : a ≡ holding (fresh_head region minimum) chunks
  pub standing : Standing (fresh_head region minimum) chunks

module _ (region minimum capacity : ℕ) where
  made : (r : Option Refusal) → refused_by (creation_tests region minimum capacity) ≡ r →
      (o : Option (List Chunk)) → first_chunks (fresh_head region minimum) capacity ≡ o →
      (creation r (fresh_head region minimum) capacity).answer ≡ Ok tt → Started region minimum (creation r (fresh_head region minimum) capacity).arena
  unfolding creation created_with refused_creation
  made (Some x) p o q d = absurd (let z : ◌≡◌ {A = ℕ} 0 1 = cc in omega arith)
  made None p None q d = absurd (let z : ◌≡◌ {A = ℕ} 0 1 = cc (q, d) in omega arith)
  made None p (Some cs) q d =
      record {
        chunks = cs;
        holds = rw q;
        standing = first-standing (fresh_head region minimum) capacity (empty-standing region minimum capacity p) q;
      }

  pub created-started : (created_of region minimum capacity).answer ≡ Ok tt → Started region minimum (created_of region minimum capacity).arena
  unfolding created_of
  created-started d =
      made (refused_by (creation_tests region minimum capacity)) refl (first_chunks (fresh_head region minimum) capacity) refl d

-- what a reset keeps stands
pub reset-standing : {h : Head} (cs : List Chunk) → Standing h cs → Standing h (kept_by_reset cs)
unfolding kept_by_reset
reset-standing [] s = s
reset-standing (c ∷ cs) s = standing-alone s

module _ (a : Arena) where
  -- the limit calls, for either form of limit
  pub limited-sound : (limited limit : ℕ) → limit_formed (limited_to a limited limit).head ≡ true → Sound a → Sound (limited_to a limited limit)
  limited-sound limited limit formed s =
      record {
        head =
            record {
              minimum-power = s.head.minimum-power;
              minimum-bound = s.head.minimum-bound;
              region_bound = s.head.region_bound;
              limit-formed = formed;
              count_bound = s.head.count_bound;
            };
        starts-unused = s.starts-unused;
        sizes-unused = s.sizes-unused;
        pointers-unused = s.pointers-unused;
        chunks = s.chunks;
        apart = s.apart;
      }

  answered-sound : sound_of a ≡ true → (r : Option Refusal) (changed : Arena) → sound_of changed ≡ true → sound_of (answered r a changed).arena ≡ true
  unfolding answered
  answered-sound sound (Some r) changed h = sound
  answered-sound sound None changed h = h

  pub set-limit-sound : (limit : ℕ) → sound_of a ≡ true → sound_of (set_limit_of a limit).arena ≡ true
  unfolding set_limit_of limit_formed
  set-limit-sound limit sound = answered-sound sound _ _ (sound-shut (limited-sound 1 limit refl (sound-open a sound)))

  pub no-limit-sound : sound_of a ≡ true → sound_of (no_limit_of a).arena ≡ true
  unfolding no_limit_of limit_formed
  no-limit-sound sound = answered-sound sound _ _ (sound-shut (limited-sound 0 0 refl (sound-open a sound)))

  pub reset-sound : sound_of a ≡ true → sound_of (reset_of a).arena ≡ true
  unfolding reset_of
  reset-sound sound = answered-sound sound _ _ (sound-shut (standing-sound (reset-standing (held_of a) (sound-standing (sound-open a sound)))))
