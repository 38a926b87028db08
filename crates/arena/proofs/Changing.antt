-- A change of a sound record is made by writing at the last held place, or at the first unused one. Assumes nothing.
use Prim.Native.Nat.{ℕ, ◌+◌, ◌-◌, ◌≤◌, ◌<◌}
use mathlib.Core.List.{List, [], ◌∷◌}
use mathlib.Core.Path.{◌≡◌, sym, ◌∙◌, ap}
use lib.ListN.{replicate, set}
use native.Mathlib.Omega.{arith}
use borrow.Author.Tests.{le-leb, lt-leb}
use Rattle.arena.specs.declared.Arena.{Arena}
use Rattle.arena.specs.declared.Chunk.{Chunk}
use Rattle.arena.specs.declared.change.Change.{Change}
use Rattle.arena.specs.declared.change.Change.TheVariants.{Same, Moved, Added, Limited, Kept}
use Rattle.rounding.proofs.Every.{every_map}
use Rattle.arena.specs.Numbers.{places, most}
use Rattle.arena.specs.Record.{end_of, record_of, chunk_at, chunks_of, held_of, column, holding}
use Rattle.arena.specs.Creation.{limited_to, kept_by_reset}
use Rattle.arena.specs.Inner.{moved_to, changed_by}
use Rattle.arena.proofs.Soundness.{Sound}
use Rattle.arena.proofs.View.{with_count, chunks-at, chunks-newest, holding-held, holding-taken, holding-moved}

module _ {a : Arena} (s : Sound a) {change : Change} where
  pub stays_same : change ≡ Same → a ≡ changed_by change a
  unfolding changed_by
  stays_same e = rw e

  pub moves-nowhere : {p : ℕ} → change ≡ Moved p → a.head.count ≡ 0 → a ≡ changed_by change a
  unfolding changed_by moved_to chunks_of
  moves-nowhere {p} e none =
      let empty : held_of a ≡ [] = ap (chunks_of a.starts a.sizes a.pointers) none in
      sym
      (ap (λ (d : Change). changed_by d a) e
      ∙ ap (λ (cs : List Chunk). holding a.head (moved_to cs p)) empty
      ∙ sym (ap (holding a.head) empty)
      ∙ holding-held s)

  pub moves : {p : ℕ} → change ≡ Moved p → 0 < a.head.count →
      record_of a.head a.starts a.sizes (set a.pointers (a.head.count - 1) p) ≡ changed_by change a
  unfolding changed_by moved_to
  moves {p} e l =
      let newest = chunks-newest a.starts a.sizes a.pointers a.head.count l in
      sym
      (ap (λ (d : Change). changed_by d a) e
      ∙ ap (λ (cs : List Chunk). holding a.head (moved_to cs p)) newest
      ∙ holding-moved s newest p)

  pub adds-nothing : {c : Chunk} → change ≡ Added c → places ≤ a.head.count → a ≡ changed_by change a
  unfolding changed_by
  adds-nothing {c} e l = rw (e, le-leb places a.head.count l)

  pub adds : {c : Chunk} → change ≡ Added c → a.head.count < places →
      record_of (with_count a.head (a.head.count + 1)) (set a.starts a.head.count c.start) (set a.sizes a.head.count c.size)
      (set a.pointers a.head.count c.pointer)
      ≡ changed_by change a
  unfolding changed_by
  adds {c} e l = rw (e, lt-leb places a.head.count l) (sym (holding-taken s c))

  pub limits : {limited limit : ℕ} → change ≡ Limited limited limit → limited_to a limited limit ≡ changed_by change a
  unfolding changed_by
  limits e = rw e

  pub keeps : {b : Arena} → change ≡ Kept → b ≡ holding a.head (kept_by_reset (held_of a)) → b ≡ changed_by change a
  unfolding changed_by
  keeps e k = rw e k

module _ {a : Arena} (s : Sound a) where
  -- with no chunk there is nothing to keep
  pub keeps-none : a.head.count ≡ 0 → a ≡ holding a.head (kept_by_reset (held_of a))
  unfolding kept_by_reset chunks_of
  keeps-none none =
      let empty : held_of a ≡ [] = ap (chunks_of a.starts a.sizes a.pointers) none in
      sym
      (ap (λ (cs : List Chunk). holding a.head (kept_by_reset cs)) empty
      ∙ sym (ap (holding a.head) empty)
      ∙ holding-held s)

  -- of one chunk only the pointer goes elsewhere
  pub keeps-only : a.head.count ≡ 1 →
      let c = chunk_at a.starts a.sizes a.pointers 0 in
      record_of a.head a.starts a.sizes (set a.pointers 0 (end_of c)) ≡ holding a.head (kept_by_reset (held_of a))
  unfolding kept_by_reset chunks_of
  keeps-only one =
      let c = chunk_at a.starts a.sizes a.pointers 0 in
      let single : held_of a ≡ c ∷ [] = ap (chunks_of a.starts a.sizes a.pointers) one in
      sym
      (ap (λ (cs : List Chunk). holding a.head (kept_by_reset cs)) single
      ∙ holding-moved s single (end_of c)
      ∙ ap (λ (k : ℕ). record_of a.head a.starts a.sizes (set a.pointers (k - 1) (end_of c))) one)

  -- the current chunk goes to the first place, and the others are emptied
  pub keeps-current : 0 < a.head.count →
      let c = chunk_at a.starts a.sizes a.pointers (a.head.count - 1) in
      record_of (with_count a.head 1) (set (replicate places 0) 0 c.start) (set (replicate places 0) 0 c.size) (set (replicate places 0) 0 (end_of c))
      ≡ holding a.head (kept_by_reset (held_of a))
  unfolding kept_by_reset holding column
  keeps-current l =
      sym (ap (λ (cs : List Chunk). holding a.head (kept_by_reset cs)) (chunks-newest a.starts a.sizes a.pointers a.head.count l))

  -- a held chunk's end is a number
  pub held-ends : (i : ℕ) → i < a.head.count → end_of (chunk_at a.starts a.sizes a.pointers i) ≤ most
  held-ends i l =
      chunks-at a.starts a.sizes a.pointers (λ d. end_of d ≤ most) {i = i} {k = a.head.count} l
      (every_map (λ d k. omega (arith, k.inside, s.head.region_bound)) (held_of a) s.chunks)
