-- `arena::creation::with_chunk` meets its contract: writing at the first unused place takes a chunk. Assumes nothing.
use mathlib.Core.Path.{sym}
use Rattle.arena.proofs.Soundness.{sound-open}
use Rattle.arena.proofs.View.{holding-taken}
use Rattle.arena.proofs.creation.with_chunk.Goals as goal

pub returns : goal.returns
returns c =
    let a = c.args.a in
    sym (holding-taken (sound-open a c.requires.0) c.args.c)
