-- `calls::fast::chunk_gives` meets its contract: the two tests settle whether the needed bytes stand above the start. Assumes nothing.
use Prim.Native.Nat.{ℕ, max, ◌∣◌}
use native.Mathlib.Nat.{le_antisymm, dvd_trans}
use native.Mathlib.Omega.{arith}
use mathlib.Core.Path.{◌≡◌, sym, ◌∙◌, ap}
use Rattle.rounding.specs.Round.{round_up}
use Rattle.rounding.proofs.Powers.{Power, one-bit-power, power-one-bit, power-positive, power_divides, max_cases}
use Rattle.rounding.proofs.Rounding.{up-at-least, up-near, up_multiple, up-stays, up-monotone, up_least}
use Rattle.std.specs.Prelude.{Some}
use Rattle.arena.proofs.Soundness.{align-open}
use Rattle.calls.specs.Allocate.{needed}
use Rattle.calls.proofs.Carving.{chunk-gives}
use Rattle.calls.proofs.Giving.{chunk-lacks}
use Rattle.calls.proofs.fast.chunk_gives.Goals as goal

-- rounded up to one power and then to the other, a number is rounded up to the larger
up-twice : (n : ℕ) {p q : ℕ} → Power p → Power q → round_up (round_up n p) q ≡ round_up n (max p q)
up-twice n {p} {q} hp hq =
    max_cases (λ (m : ℕ). round_up (round_up n p) q ≡ round_up n m) p q
    (λ l.
    let both : p ∣ round_up n q = dvd_trans p (power_divides hp hq l) (up_multiple n q) in
    le_antisymm (up_least (round_up n p) q (up_multiple n q) (up_least n p both (up-at-least n q (power-positive hq))))
    (up-monotone q (up-at-least n p (power-positive hp))))
    (λ l. up-stays q (dvd_trans q (power_divides hq hp l) (up_multiple n p)))

pub down_to_power-top-requires : goal.down_to_power-top-requires
down_to_power-top-requires c = power-one-bit (align-open _ c.args.request.align).power

pub up_to_power-aligned-requires : goal.up_to_power-aligned-requires
up_to_power-aligned-requires c =
    (power-one-bit (align-open _ c.args.request.align).power, omega (arith, (align-open _ c.args.request.align).bound, c.args.request.size))

pub up_to_power-needed-requires : goal.up_to_power-needed-requires
up_to_power-needed-requires c =
    let near = up-near c.args.request.layout.size c.args.request.layout.align (power-positive (align-open _ c.args.request.align).power) in
    (c.requires.0, omega (arith, c.up_to_power-aligned.ensures, near, c.requires.1, (align-open _ c.args.request.align).bound, c.args.request.size))

pub returns-then-top-needed : goal.returns-then-top-needed
returns-then-top-needed c =
    let needed-bytes : (c.up_to_power-needed.result ≡ needed c.args.minimum c.args.request.layout.size c.args.request.layout.align) = c.up_to_power-needed.ensures
    ∙ ap (λ (n : ℕ). round_up n c.args.minimum) c.up_to_power-aligned.ensures
    ∙ up-twice c.args.request.layout.size (align-open _ c.args.request.align).power (one-bit-power c.args.minimum c.requires.0) in
    sym (chunk-lacks c.args.minimum c.args.c c.args.request.layout.size c.args.request.layout.align (omega (arith, c.down_to_power-top.ensures, needed-bytes)))

pub returns-then-p-c : goal.returns-then-p-c
returns-then-p-c c =
    let needed-bytes : (c.up_to_power-needed.result ≡ needed c.args.minimum c.args.request.layout.size c.args.request.layout.align) = c.up_to_power-needed.ensures
    ∙ ap (λ (n : ℕ). round_up n c.args.minimum) c.up_to_power-aligned.ensures
    ∙ up-twice c.args.request.layout.size (align-open _ c.args.request.align).power (one-bit-power c.args.minimum c.requires.0) in
    sym (chunk-lacks c.args.minimum c.args.c c.args.request.layout.size c.args.request.layout.align (omega (arith, c.down_to_power-top.ensures, needed-bytes)))

pub returns : goal.returns
returns c =
    let needed-bytes : (c.up_to_power-needed.result ≡ needed c.args.minimum c.args.request.layout.size c.args.request.layout.align) = c.up_to_power-needed.ensures
    ∙ ap (λ (n : ℕ). round_up n c.args.minimum) c.up_to_power-aligned.ensures
    ∙ up-twice c.args.request.layout.size (align-open _ c.args.request.align).power (one-bit-power c.args.minimum c.requires.0) in
    let top = c.down_to_power-top.ensures in
    ap Some (omega (arith, top, needed-bytes))
    ∙ sym (chunk-gives c.args.minimum c.args.c c.args.request.layout.size c.args.request.layout.align (omega (arith, top, needed-bytes)))
