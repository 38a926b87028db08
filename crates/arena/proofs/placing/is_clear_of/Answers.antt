-- `arena::placing::is_clear_of` meets its contract: the first test decides where it holds, and the second where it fails.
-- Assumes nothing.
use Prim.Native.Nat.{ℕ, ◌+◌, ◌<◌}
use mathlib.Core.Logic.{inl}
use mathlib.Core.Path.{◌≡◌, sym}
use lib.Dec.{leb}
use borrow.Author.Tests.{lt-leb}
use Rattle.arena.specs.declared.Chunk.{Chunk}
use Rattle.arena.specs.Record.{past_of}
use Rattle.arena.specs.Placing.{misses}
use Rattle.arena.proofs.Lowest.{misses-shut}
use Rattle.arena.proofs.placing.is_clear_of.Goals as goal

by-second : (at length : ℕ) (c : Chunk) → c.start < at + length → leb (past_of c) at ≡ misses at length c
unfolding misses
by-second at length c l = rw (lt-leb (at + length) c.start l)

pub returns-then-at-length : goal.returns-then-at-length
returns-then-at-length c =
    let asked = c.args in
    sym (misses-shut asked.at asked.length asked.c (inl c.if-at-length.true))

pub returns : goal.returns
returns c =
    let asked = c.args in
    by-second asked.at asked.length asked.c c.if-at-length.false
