-- The invariant of a state: its record is sound, and its live blocks have spaces that are good. A call that is refused leaves the state, and a call
-- that names a block may take that block for the first of the ledger. Assumes nothing.
use Prim.Native.Nat.{ℕ}
use mathlib.Core.List.{List, ◌∷◌, map}
use Rattle.std.specs.Prelude.{Option, None, Some, Err, Ok, option_map}
use mathlib.Core.Path.{◌≡◌, refl, sym, ap, subst, ◌∙◌}
use Rattle.arena.specs.declared.Head.{Head}
use Rattle.arena.specs.declared.Arena.{Arena}
use Rattle.arena.specs.declared.Chunk.{Chunk}
use Rattle.arena.specs.declared.Refusal.{Refusal}
use Rattle.arena.specs.declared.Refusal.TheVariants.{Room}
use Rattle.arena.specs.Record.{held_of, holding}
use Rattle.arena.specs.Refusals.{answered, Given}
use Rattle.arena.proofs.Soundness.{Sound}
use Rattle.arena.proofs.Standing.{standing-sound, standing-held}
use Rattle.arena.proofs.View.{held-holding}
use Rattle.calls.specs.Bytes.{after_given}
use Rattle.calls.specs.Allocate.{Taken, given}
use Rattle.sequence.specs.Ledger.{Live, Chosen, chosen_of, choose}
use Rattle.sequence.specs.History.{State, state_of, if_given, if_done, giving, leaving, on_chosen, on_block}
use Rattle.sequence.proofs.Lists.{every-chosen, two-chosen, choose-map}
use Rattle.sequence.proofs.Spaces.{Space, Disjoint, disjoint-turn}
use Rattle.sequence.proofs.Moves.{Sits, Good}

abbrev pub lives : List Space → List Live
lives spaces = map (λ u. u.live) spaces

pub record Invariant (s : State) : Type 0 where
  pub sound : Sound s.arena
  pub spaces : List Space
  pub same : lives spaces ≡ s.ledger
  pub good : Good s.arena.head (held_of s.arena) s.bytes spaces

-- the record of these chunks shows them
good-held : {h : Head} {cs : List Chunk} {bytes : List ℕ} {spaces : List Space} → Good h cs bytes spaces →
    Good (holding h cs).head (held_of (holding h cs)) bytes spaces
unfolding holding
good-held {h} {cs} {bytes} {spaces} g =
    subst (λ (ds : List Chunk). Good (holding h cs).head ds bytes spaces) (sym (held-holding h cs g.standing.few))
    (record { standing = standing-held g.standing; region = g.region; sits = g.sits; apart = g.apart })

pub settled : {h : Head} {cs : List Chunk} {bytes : List ℕ} (spaces : List Space) {ledger : List Live} → Good h cs bytes spaces → lives spaces ≡ ledger →
    Invariant (state_of (holding h cs) bytes ledger)
settled spaces g e = record { sound = standing-sound g.standing; spaces = spaces; same = e; good = good-held g }

-- a call that gives out a block: refused, nothing changes
module _ (s : State) (inv : Invariant s) (others : List Live) (after : List ℕ) (new : ℕ → Live) where
  pub giving-keeps : (r : Option Refusal) (o : Option Taken) → ((x : Refusal) → (given r s.arena o).answer ≡ Err x → after ≡ s.bytes) →
      ((t : Taken) → r ≡ None → o ≡ Some t → (given r s.arena o).answer ≡ Ok t.offset →
      Invariant (state_of (holding s.arena.head t.chunks) after (new t.offset ∷ others))) →
      Invariant (giving s others (given r s.arena o) after new)
  unfolding given if_given
  giving-keeps (Some x) o same h = subst (λ (b : List ℕ). Invariant (state_of s.arena b s.ledger)) (sym (same x refl)) inv
  giving-keeps None None same h = subst (λ (b : List ℕ). Invariant (state_of s.arena b s.ledger)) (sym (same Room refl)) inv
  giving-keeps None (Some t) same h = h t refl refl refl

-- the bytes after a call that is refused are those before
pub unchanged : {g : Given} {x : Refusal} (make : ℕ → List ℕ) (bytes : List ℕ) → g ≡ Err x → after_given g make bytes ≡ bytes
unfolding after_given
unchanged make bytes e = rw e

-- a call that gives out none
pub leaving-keeps : (s : State) → Invariant s → (others : List Live) (r : Option Refusal) (changed : Arena) →
    (r ≡ None → Invariant (state_of changed s.bytes others)) → Invariant (leaving s (answered r s.arena changed) others)
unfolding answered if_done
leaving-keeps s inv others (Some r) changed h = inv
leaving-keeps s inv others None changed h = h refl

-- a call that names a block
good-chosen : {h : Head} {cs : List Chunk} {bytes : List ℕ} {spaces : List Space} (place : ℕ) {c : Chosen Space} → choose spaces place ≡ Some c →
    Good h cs bytes spaces → Good h cs bytes (c.one ∷ c.others)
good-chosen {h} {cs} {bytes} {spaces} place e g =
    record {
      standing = g.standing;
      region = g.region;
      sits = every-chosen (Sits h.minimum cs bytes) spaces place e g.sits;
      apart = two-chosen Disjoint disjoint-turn spaces place e g.apart;
    }

pub block-keeps : (s : State) (inv : Invariant s) (place : ℕ) (act : State → Live → List Live → State) →
    ((u : Space) (rest : List Space) → Good s.arena.head (held_of s.arena) s.bytes (u ∷ rest) → Invariant (act s u.live (lives rest))) →
    Invariant (on_block place act s)
unfolding on_chosen
block-keeps s inv place act h =
    subst (λ (o : Option (Chosen Live)). Invariant (on_chosen o act s)) (sym chosen-space) (go (choose inv.spaces place) refl)
  where
    chosen-space : choose s.ledger place ≡ option_map (λ (c : Chosen Space). chosen_of c.one.live (lives c.others)) (choose inv.spaces place)
    chosen-space = ap (λ (l : List Live). choose l place) (sym inv.same) ∙ choose-map (λ (u : Space). u.live) inv.spaces place

    go : (o : Option (Chosen Space)) → choose inv.spaces place ≡ o →
        Invariant (on_chosen (option_map (λ (c : Chosen Space). chosen_of c.one.live (lives c.others)) o) act s)
    go None e = inv
    go (Some c) e = h c.one c.others (good-chosen place e inv.good)
