-- `calls::allocate::allocate_on` meets its contract: an unsound record or another region's length is refused, and the rest is the sound record's.
-- Assumes nothing.
use mathlib.Core.Path.{refl, sym, ◌∙◌, ap}
use lib.ListN.{length}
use Rattle.std.proofs.lemmas.Result.{err_from_is_err_and}
use Rattle.arena.specs.declared.Arena.{Arena}
use Rattle.arena.specs.Refusals.{Allocation}
use Rattle.calls.specs.Inner.{lent_tests, first_of}
use Rattle.calls.proofs.Requests.{allocate-lent}
use Rattle.calls.proofs.allocate.allocate_on.Goals as goal

pub returns-in_err-sound-clause-value : goal.returns-in_err-sound-clause-value
returns-in_err-sound-clause-value c =
    let s = c.args in
    let n = length s.region.now in
    let refused = sym (ap (λ (a : Arena). first_of (lent_tests a n)) c.lent.ensures) ∙ c.in_err-sound.ensures.err in
    let p = err_from_is_err_and c.from_residual.result c.from_residual.ensures.1 in
    rw (allocate-lent s.a.now n s.size s.align refused, p.1, p.2) refl

pub returns-in_err-sound-clause-arena_after : goal.returns-in_err-sound-clause-arena_after
returns-in_err-sound-clause-arena_after c =
    let s = c.args in
    let n = length s.region.now in
    let refused = sym (ap (λ (a : Arena). first_of (lent_tests a n)) c.lent.ensures) ∙ c.in_err-sound.ensures.err in
    sym (ap (λ (o : Allocation). o.arena) (allocate-lent s.a.now n s.size s.align refused))
