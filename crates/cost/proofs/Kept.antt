-- What changes leave: a sound record is sound after none and after a reset, and each is of the region that it was of. Assumes nothing.
use Prim.Native.Nat.{ℕ}
use mathlib.Core.Bool.{Bool, true, false, cond}
use mathlib.Core.List.{◌∷◌}
use mathlib.Core.Path.{◌≡◌, refl, sym, ap, ◌∙◌}
use lib.Dec.{leb}
use Rattle.arena.specs.declared.Arena.{Arena}
use Rattle.arena.specs.declared.change.Change.{Change}
use Rattle.arena.specs.declared.change.Change.TheVariants.{Same, Moved, Added, Limited, Kept}
use Rattle.arena.specs.Creation.{reset_of}
use Rattle.arena.specs.Inner.{changed_by}
use Rattle.arena.specs.Numbers.{places}
use Rattle.arena.specs.Record.{held_of, holding}
use Rattle.arena.specs.Sound.{sound_of}
use Rattle.arena.proofs.Refusing.{sound-done}
use Rattle.arena.proofs.StaysSound.{reset-sound}
use Rattle.cost.specs.Turns.{Keeps}

pub same-keeps : (a : Arena) → sound_of a ≡ true → Keeps a Same
unfolding changed_by
same-keeps a s = s

pub reset-keeps : (a : Arena) → sound_of a ≡ true → Keeps a Kept
unfolding changed_by reset_of
reset-keeps a s = ap (λ o. sound_of o.arena) (sym (sound-done a _ s)) ∙ reset-sound a s

-- no change is of another region
pub changed-region : (change : Change) (a : Arena) → (changed_by change a).head.region ≡ a.head.region
unfolding changed_by holding
changed-region Same a = refl
changed-region (Moved p) a = refl
changed-region (Added c) a = go (leb places a.head.count)
  where
    go : (b : Bool) → (cond b a (holding a.head (c ∷ held_of a))).head.region ≡ a.head.region
    go true = refl
    go false = refl
changed-region (Limited limited limit) a = refl
changed-region Kept a = refl

-- a sound record that is lent its own region, of n bytes
abbrev pub Held : ℕ → Arena → Type 0
Held n a = (sound_of a ≡ true) × (n ≡ a.head.region)

pub still-held : (n : ℕ) (a b lent : Arena) (change : Change) → b ≡ changed_by change a → lent ≡ a → Keeps lent change → Held n a → Held n b
still-held n a b lent change e same keeps held = (
  ap sound_of e ∙ ap (λ o. sound_of (changed_by change o)) (sym same) ∙ keeps,
  held.1 ∙ sym (ap (λ (o : Arena). o.head.region) e ∙ changed-region change a),
)
