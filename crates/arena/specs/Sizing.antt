-- Document 01, "Sizing and placing": the usable size n of a chunk, from a base and a request.
use Rattle.std.specs.Prelude.{ℕ, ◌+◌, ◌-◌, max, cond, ltb}
use Rattle.rounding.specs.Round.{round_up, next_power}
use Rattle.arena.specs.Numbers.{overhead, page, step}

-- "a = max(16, alignment)": what a chunk for this alignment is placed at a multiple of
abbrev pub place_align : ℕ → ℕ
place_align align = max step align

-- "r = size rounded up to a; m = max(b, r)"
unfoldable pub wanted : ℕ → ℕ → ℕ → ℕ
wanted base size align = max base (round_up size (place_align align))

-- "If m < 4,096, n is the next power of two at or above m + 64, less 64; else m + 64 rounded up to 4,096, less 64"
unfoldable pub usable_for : ℕ → ℕ
usable_for m = cond (ltb m page) (next_power (m + overhead) - overhead) (round_up (m + overhead) page - overhead)

-- "Usable size from a base b and a request"
unfoldable pub usable : ℕ → ℕ → ℕ → ℕ
usable base size align = usable_for (wanted base size align)
