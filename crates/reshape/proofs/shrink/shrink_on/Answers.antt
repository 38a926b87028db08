-- `reshape::shrink::shrink_on` meets its contract: an unsound record or another region's length is refused, and the rest is the sound record's.
-- Assumes nothing.
use mathlib.Core.Path.{refl, sym, ◌∙◌, ap}
use lib.ListN.{length}
use Rattle.std.proofs.lemmas.Result.{err_from_is_err_and}
use Rattle.arena.specs.declared.Arena.{Arena}
use Rattle.calls.specs.Bytes.{after_given}
use Rattle.calls.specs.Shrink.{shrink_bytes}
use Rattle.calls.specs.Inner.{lent_tests, first_of}
use Rattle.reshape.proofs.Stopping.{shrink-lent}
use Rattle.reshape.proofs.shrink.shrink_on.Goals as goal

pub returns-in_err-sound : goal.returns-in_err-sound
unfolding after_given shrink_bytes
returns-in_err-sound c =
    let s = c.args in
    let n = length s.region.now in
    let refused = sym (ap (λ (a : Arena). first_of (lent_tests a n)) c.lent.ensures) ∙ c.in_err-sound.ensures.err in
    let stopped = shrink-lent s.a.now n s.offset s.old s.old_align s.new s.new_align refused in
    let p = err_from_is_err_and c.from_residual.result c.from_residual.ensures.1 in
    record { value = rw (stopped, p.1, p.2) refl; arena_after = rw stopped refl; region_after = rw stopped refl }
