-- What is known of a chunk that the code reads: the current one, and one from a place of the table, is sound where its record is. Assumes nothing.
use Prim.Native.Nat.{ℕ, ◌≤◌, ◌<◌}
use native.Mathlib.Omega.{arith}
use mathlib.Core.Path.{◌≡◌, sym, subst}
use Rattle.rounding.specs.Every.{Each}
use Rattle.arena.specs.declared.Arena.{Arena}
use Rattle.arena.specs.declared.Chunk.{Chunk}
use Rattle.arena.specs.Numbers.{most}
use Rattle.arena.specs.Record.{end_of, chunk_at, held_of}
use Rattle.arena.proofs.Current.{Current}
use Rattle.arena.proofs.Soundness.{Sound, ChunkSound}
use Rattle.arena.proofs.View.{chunks-at}

module _ {a : Arena} (s : Sound a) {c : Chunk} (now : Current (held_of a) c) where
  pub current-sound : ChunkSound a.head.region a.head.minimum c
  current-sound = (subst (Each (ChunkSound a.head.region a.head.minimum)) now.newest s.chunks).0

  -- so its end can be added up
  pub current-end : end_of c ≤ most
  current-end = omega (arith, current-sound.inside, s.head.region_bound)

module _ {a : Arena} (s : Sound a) {c : Chunk} {i : ℕ} (l : i < a.head.count) (e : c ≡ chunk_at a.starts a.sizes a.pointers i) where
  pub read-sound : ChunkSound a.head.region a.head.minimum c
  read-sound =
      subst (ChunkSound a.head.region a.head.minimum) (sym e)
      (chunks-at a.starts a.sizes a.pointers (ChunkSound a.head.region a.head.minimum) l s.chunks)

  pub read-end : end_of c ≤ most
  read-end = omega (arith, read-sound.inside, s.head.region_bound)
