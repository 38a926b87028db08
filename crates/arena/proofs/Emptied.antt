-- The record with no chunk: sound wherever its settings are, and a chunk taken in it is the only one. Assumes nothing.
use Prim.Native.Nat.{zero-le}
use mathlib.Core.Bool.{true}
use mathlib.Core.List.{List, [], ◌∷◌}
use mathlib.Core.Path.{◌≡◌, ◌∙◌, ap}
use Rattle.arena.specs.declared.Head.{Head}
use Rattle.arena.specs.declared.Arena.{Arena}
use Rattle.arena.specs.declared.Chunk.{Chunk}
use Rattle.arena.specs.Record.{held_of, holding}
use Rattle.arena.specs.Sound.{sound_of}
use Rattle.arena.proofs.Soundness.{Settings, sound-shut}
use Rattle.arena.proofs.View.{held-holding, holding-sound}

pub emptied-sound : {h : Head} {a : Arena} → Settings h → a ≡ holding h [] → sound_of a ≡ true
emptied-sound s e = rw e (sound-shut (holding-sound [] s zero-le tt tt))

pub emptied-count : (h : Head) {a : Arena} → a ≡ holding h [] → a.head.count ≡ 0
unfolding holding
emptied-count h e = ap (λ (b : Arena). b.head.count) e

pub emptied-taken : (h : Head) {a : Arena} (c : Chunk) → a ≡ holding h [] → holding a.head (c ∷ held_of a) ≡ holding h (c ∷ [])
unfolding holding
emptied-taken h c e =
    ap (λ (b : Arena). holding b.head (c ∷ held_of b)) e ∙ ap (λ (cs : List Chunk). holding h (c ∷ cs)) (held-holding h [] zero-le)
