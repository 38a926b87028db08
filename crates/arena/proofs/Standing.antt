-- The held chunks of a sound record, with what of its head the rules lean on. Every rule that changes the chunks keeps this, and the record that
-- holds them is then sound. Assumes nothing.
use Prim.Native.Nat.{ℕ, ◌≤◌, ◌<◌, ◌∣◌}
use native.Mathlib.Nat.{le_refl, dvd_trans, dvd-add}
use native.Mathlib.Omega.{arith}
use mathlib.Core.List.{List, [], ◌∷◌}
use mathlib.Core.Path.{◌≡◌, sym, subst}
use lib.ListN.{length}
use Rattle.rounding.specs.Every.{Each}
use Rattle.rounding.proofs.Powers.{two-to-the, power_divides}
use Rattle.arena.specs.declared.Head.{Head}
use Rattle.arena.specs.declared.Arena.{Arena}
use Rattle.arena.specs.declared.Chunk.{Chunk}
use Rattle.arena.specs.Numbers.{step, places}
use Rattle.arena.specs.Record.{end_of, past_of, with_pointer, held_of, holding}
use Rattle.arena.specs.Sound.{limit_formed}
use Rattle.arena.proofs.Soundness.{Settings, settings, Sound, ChunkSound, Clear, Apart}
use Rattle.arena.proofs.View.{length-chunks, holding-sound}

pub record Standing (h : Head) (cs : List Chunk) : Type 0 where
  pub settings : Settings h
  pub few : length cs ≤ places
  pub chunks : Each (ChunkSound h.region h.minimum) cs
  pub apart : Apart cs

pub sound-standing : {a : Arena} → Sound a → Standing a.head (held_of a)
sound-standing {a} s =
    record {
      settings = settings s.head;
      few = omega (arith, length-chunks a.starts a.sizes a.pointers a.head.count, s.head.count_bound);
      chunks = s.chunks;
      apart = s.apart;
    }

pub standing-sound : {h : Head} {cs : List Chunk} → Standing h cs → Sound (holding h cs)
standing-sound {h} {cs} s = holding-sound cs s.settings s.few s.chunks s.apart

-- the record of these chunks shows them, under a head that differs in the count alone
pub standing-held : {h : Head} {cs : List Chunk} → Standing h cs → Standing (holding h cs).head cs
unfolding holding limit_formed
standing-held s =
    record {
      settings =
          record {
            minimum-power = s.settings.minimum-power;
            minimum-bound = s.settings.minimum-bound;
            region_bound = s.settings.region_bound;
            limit-formed = s.settings.limit-formed;
          };
      few = s.few;
      chunks = s.chunks;
      apart = s.apart;
    }

-- the minimum divides what 16 divides, and so a chunk's end
pub on-minimum : {h : Head} {n : ℕ} → Settings h → step ∣ n → h.minimum ∣ n
on-minimum {h} s d = dvd_trans h.minimum (power_divides s.minimum-power (two-to-the 4) s.minimum-bound) d

pub end-on-minimum : {h : Head} (c : Chunk) → Settings h → step ∣ c.start → step ∣ c.size → h.minimum ∣ end_of c
end-on-minimum c s d e = on-minimum s (dvd-add step d e)

-- a chunk that can be taken beside these, pointer at its end
pub record Fresh (h : Head) (cs : List Chunk) (c : Chunk) : Type 0 where
  pub start-multiple : step ∣ c.start
  pub size-multiple : step ∣ c.size
  pub inside : past_of c ≤ h.region
  pub at-end : c.pointer ≡ end_of c
  pub clear : Each (Clear c) cs
  pub place-free : length cs < places

pub standing-pushed : {h : Head} {cs : List Chunk} {c : Chunk} → Standing h cs → Fresh h cs c → Standing h (c ∷ cs)
standing-pushed {h} {cs} {c} s f =
    record {
      settings = s.settings;
      few = omega (arith, f.place-free);
      chunks = (
        record {
          start-multiple = f.start-multiple;
          size-multiple = f.size-multiple;
          inside = f.inside;
          above-start = omega (arith, f.at-end);
          below_end = omega (arith, f.at-end);
          pointer-multiple = subst (λ (p : ℕ). h.minimum ∣ p) (sym f.at-end) (end-on-minimum c s.settings f.start-multiple f.size-multiple);
        },
        s.chunks,
      );
      apart = (f.clear, s.apart);
    }

-- the current chunk's pointer may go to any multiple of the minimum in the chunk
pub standing-repointed : {h : Head} {c : Chunk} {cs : List Chunk} (p : ℕ) → Standing h (c ∷ cs) → c.start ≤ p → p ≤ end_of c → h.minimum ∣ p →
    Standing h (with_pointer c p ∷ cs)
standing-repointed {h} {c} {cs} p s low high d =
    record {
      settings = s.settings;
      few = s.few;
      chunks = (
        record {
          start-multiple = s.chunks.0.start-multiple;
          size-multiple = s.chunks.0.size-multiple;
          inside = s.chunks.0.inside;
          above-start = low;
          below_end = high;
          pointer-multiple = d;
        },
        s.chunks.1,
      );
      apart = s.apart;
    }

-- the current chunk may be kept alone, pointer at its end
pub standing-alone : {h : Head} {c : Chunk} {cs : List Chunk} → Standing h (c ∷ cs) → Standing h (with_pointer c (end_of c) ∷ [])
standing-alone {h} {c} s =
    let chunk = s.chunks.0 in
    standing-repointed (end_of c)
    (record { settings = s.settings; few = omega arith; chunks = (chunk, tt); apart = (tt, tt) })
    (omega arith) (le_refl (end_of c)) (end-on-minimum c s.settings chunk.start-multiple chunk.size-multiple)
