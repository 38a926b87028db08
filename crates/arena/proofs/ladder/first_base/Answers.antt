-- `arena::ladder::first_base` meets its contract: the current chunk, where there is one, is the first of the held ones. Assumes nothing.
use Prim.Native.Nat.{◌*◌, max}
use native.Mathlib.Omega.{arith}
use mathlib.Core.Path.{sym, ◌∙◌, ap}
use Rattle.arena.proofs.Current.{none-current, current-is}
use Rattle.arena.proofs.Rungs.{first-base-none, first-base-current, current-within}
use Rattle.arena.proofs.Soundness.{inside-ready}
use Rattle.arena.proofs.ladder.first_base.Goals as goal

pub current-requires : goal.current-requires
current-requires c = (inside-ready c.args.a.now).count_bound

pub returns-in_default : goal.returns-in_default
returns-in_default c =
    c.max-floor.ensures ∙ sym (first-base-none _ _ (none-current _ (sym c.current.ensures ∙ c.in_default.is)))

pub overflow_mul-c : goal.overflow_mul-c
overflow_mul-c c =
    let here = current-within _ (inside-ready c.args.a.now).inside (current-is _ (sym c.current.ensures ∙ c.in-Some.is)) in
    omega (arith, here, (inside-ready c.args.a.now).region_bound)

pub returns : goal.returns
returns c =
    c.max.ensures
    ∙ ap (max (2 * c.in-Some.c.size)) c.max-floor.ensures
    ∙ sym (first-base-current _ _ (current-is _ (sym c.current.ensures ∙ c.in-Some.is)))
