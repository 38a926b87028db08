-- What an inner form answers comes to what the definition gives, once its change is made. Assumes nothing.
use Prim.Native.Nat.{ℕ, ◌<◌}
use mathlib.Core.Bool.{true}
use mathlib.Core.List.{◌∷◌}
use Rattle.std.specs.Prelude.{Option, None, Some, Err, Ok}
use mathlib.Core.Path.{◌≡◌, ◌∙◌, sym, ap}
use borrow.Author.Tests.{lt-leb}
use Rattle.arena.specs.declared.Arena.{Arena}
use Rattle.arena.specs.declared.Chunk.{Chunk}
use Rattle.arena.specs.declared.Refusal.{Refusal}
use Rattle.arena.specs.declared.Refusal.TheVariants.{Room}
use Rattle.arena.specs.declared.change.Change.TheVariants.{Same, Moved, Added}
use Rattle.arena.specs.Numbers.{places}
use Rattle.arena.specs.Record.{held_of}
use Rattle.arena.specs.Inner.{moved_to, changed_by}
use Rattle.arena.specs.Sound.{sound_of}
use Rattle.arena.proofs.Soundness.{sound-open}
use Rattle.arena.proofs.View.{holding-held}
use Rattle.calls.specs.declared.Answered.{Answered}
use Rattle.calls.specs.Allocate.{Taken, given}
use Rattle.calls.specs.Inner.{answered_of}
use Rattle.calls.specs.Shrink.{stays}

module _ (a : Arena) where
  -- a refusal, and that of a request that the rules serve nothing for
  pub placed-refused : {placed : Answered ℕ} {r : Refusal} → placed ≡ record { answer = Err r; change = Same } → answered_of a placed ≡ given (Some r) a None
  unfolding changed_by given
  placed-refused e = ap (answered_of a) e

  pub placed-nowhere : {placed : Answered ℕ} {t : Option Taken} → placed ≡ record { answer = Err Room; change = Same } → t ≡ None →
      answered_of a placed ≡ given None a t
  unfolding changed_by given
  placed-nowhere e f = ap (answered_of a) e ∙ sym (ap (given None a) f)

  pub answered-refused : {T : Type 0} {got : Answered T} {r : Refusal} → got ≡ record { answer = Err r; change = Same } →
      answered_of a got ≡ record { answer = Err r; arena = a }
  unfolding changed_by
  answered-refused e = ap (answered_of a) e

  -- the block that it was, in the record that it was
  pub placed-stays : {p : ℕ} {placed : Answered ℕ} {t : Option Taken} → sound_of a ≡ true → placed ≡ record { answer = Ok p; change = Same } →
      t ≡ stays (held_of a) p → answered_of a placed ≡ given None a t
  unfolding changed_by given
  placed-stays {p} s e f =
      ap (answered_of a) e ∙ (λ i. record { answer = Ok p; arena = sym (holding-held (sound-open a s)) i }) ∙ sym (ap (given None a) f)

  -- the current chunk's block, and a new chunk's
  pub placed-moved : {p : ℕ} {t : Option Taken} → t ≡ Some (record { offset = p; chunks = moved_to (held_of a) p }) →
      answered_of a (record { answer = Ok p; change = Moved p }) ≡ given None a t
  unfolding changed_by given
  placed-moved f = sym (ap (given None a) f)

  pub placed-added : {p : ℕ} {c : Chunk} {t : Option Taken} → t ≡ Some (record { offset = p; chunks = c ∷ held_of a }) → a.head.count < places →
      answered_of a (record { answer = Ok p; change = Added c }) ≡ given None a t
  unfolding changed_by given
  placed-added f l = rw (lt-leb places a.head.count l) (sym (ap (given None a) f))
