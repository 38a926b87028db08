-- How far a replay has come: what was read and written, what is in hand, and where the machine stands.
use Rattle.std.specs.Prelude.{ℕ, Bool, false, List, [], ◌++◌}
use Rattle.std.specs.Prelude.{None}
use Rattle.requests.specs.Header.{Memory, memory_for}
use Rattle.requests.specs.Machine.{Stage, heading}
use Rattle.relay.specs.declared.Next.{Next}
use Rattle.relay.specs.declared.Next.TheVariants.{Feed}

pub record Passage : Type 0 where
  -- every byte that was read, and every byte that was written
  pub read : List ℕ
  pub written : List ℕ
  -- read, and not taken by the machine yet; printed, and not written yet
  pub pending : List ℕ
  pub text : List ℕ
  -- the machine, and the lent bytes beyond its region
  pub stage : Stage
  pub number : ℕ
  pub memory : Memory
  pub beyond : List ℕ
  -- whether the end of the input was seen, and what is asked for
  pub ended : Bool
  pub asks : Next

abbrev pub passage_at : List ℕ → List ℕ → List ℕ → List ℕ → Stage → ℕ → Memory → List ℕ → Bool → Next → Passage
passage_at read written pending text stage number memory beyond ended asks =
    record {
      read = read;
      written = written;
      pending = pending;
      text = text;
      stage = stage;
      number = number;
      memory = memory;
      beyond = beyond;
      ended = ended;
      asks = asks;
    }

-- before the first byte
abbrev pub begun_with : List ℕ → Passage
begun_with lent = passage_at [] [] [] [] heading 1 (memory_for lent None) lent false Feed

-- every lent byte
abbrev pub lent_bytes : Passage → List ℕ
lent_bytes p = p.memory.bytes ++ p.beyond

-- the same, and another thing is asked for
abbrev pub asked : Passage → Next → Passage
asked p next =
    passage_at p.read p.written p.pending p.text p.stage p.number p.memory p.beyond p.ended next
