-- What a host reads off the numbers: 0 is said exactly where nothing is refused, and then the offset is the block's. Assumes nothing.
use Prim.Native.Nat.{ℕ, ◌<◌}
use native.Mathlib.Omega.{arith}
use mathlib.Core.Path.{◌≡◌, refl}
use Rattle.arena.specs.declared.Refusal.{Refusal}
use Rattle.arena.specs.declared.Refusal.TheVariants.{State, Region, Size, Align, Block, Direction, Token, Room}
use Rattle.arena.specs.Refusals.{number_of, Answer, Given}
use Rattle.host.specs.Said.{said_of, said_given, said_part}
use Rattle.std.specs.Prelude.{Err, Ok}

pub number-above-0 : (r : Refusal) → 0 < number_of r
number-above-0 State = omega arith
number-above-0 Region = omega arith
number-above-0 Size = omega arith
number-above-0 Align = omega arith
number-above-0 Block = omega arith
number-above-0 Direction = omega arith
number-above-0 Token = omega arith
number-above-0 Room = omega arith

pub said-done : (x : Answer) → (said_of x).refusal ≡ 0 → x ≡ (Ok tt)
unfolding said_of
said-done (Ok u) e = refl
said-done (Err r) e = absurd (omega (arith, e, number-above-0 r))

pub said-given : (g : Given) → (said_given g).refusal ≡ 0 → g ≡ Ok (said_given g).offset
unfolding said_given
said-given (Ok offset) e = refl
said-given (Err r) e = absurd (omega (arith, e, number-above-0 r))

pub said-lent : (x : Answer) (offset size : ℕ) → (said_part x offset size).refusal ≡ 0 → x ≡ (Ok tt)
unfolding said_part
said-lent (Ok u) offset size e = refl
said-lent (Err r) offset size e = absurd (omega (arith, e, number-above-0 r))
