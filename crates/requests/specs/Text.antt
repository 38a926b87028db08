-- Document 01, "The replay program": the lines, byte by byte.
use Rattle.std.specs.Prelude.{ℕ, zero, suc, ◌+◌, ◌/◌, ◌%◌, cond, List, [], ◌∷◌, ◌++◌, ltb}
use Rattle.arena.specs.declared.Arena.{Arena}
use Rattle.arena.specs.Record.{held_of}
use Rattle.arena.specs.Refusals.{number_of}
use Rattle.arena.specs.Ladder.{held_bytes}
use Rattle.requests.specs.Parsed.{Ending, complete, cut_off, bad_record}
use Rattle.requests.specs.Run.{Reply, at_offset, done, refused}

-- a number's last digit, after the digits of the rest
unfoldable pub digits_within : ℕ → ℕ → List ℕ
digits_within zero n = []
digits_within (suc k) n = cond (ltb n 10) ((48 + n) ∷ []) (digits_within k (n / 10) ++ ((48 + n % 10) ∷ []))

-- a number in decimal digits: every number that is printed is below 2^64, and has 20 at most
unfoldable pub decimal : ℕ → List ℕ
decimal n = digits_within 20 n

-- a line feed ends a line
abbrev pub newline : List ℕ
newline = 10 ∷ []

-- " at "
abbrev pub at_text : List ℕ
at_text = 32 ∷ 97 ∷ 116 ∷ 32 ∷ []

-- " done" and the line's end
abbrev pub done_text : List ℕ
done_text = 32 ∷ 100 ∷ 111 ∷ 110 ∷ 101 ∷ 10 ∷ []

-- " refused "
abbrev pub refused_text : List ℕ
refused_text = 32 ∷ 114 ∷ 101 ∷ 102 ∷ 117 ∷ 115 ∷ 101 ∷ 100 ∷ 32 ∷ []

-- " cut off" and the line's end
abbrev pub cut_off_text : List ℕ
cut_off_text = 32 ∷ 99 ∷ 117 ∷ 116 ∷ 32 ∷ 111 ∷ 102 ∷ 102 ∷ 10 ∷ []

-- " bad record" and the line's end
abbrev pub bad_record_text : List ℕ
bad_record_text = 32 ∷ 98 ∷ 97 ∷ 100 ∷ 32 ∷ 114 ∷ 101 ∷ 99 ∷ 111 ∷ 114 ∷ 100 ∷ 10 ∷ []

-- "0 bad header" and the line's end
abbrev pub bad_header_text : List ℕ
bad_header_text = 48 ∷ 32 ∷ 98 ∷ 97 ∷ 100 ∷ 32 ∷ 104 ∷ 101 ∷ 97 ∷ 100 ∷ 101 ∷ 114 ∷ 10 ∷ []

-- "held "
abbrev pub held_text : List ℕ
held_text = 104 ∷ 101 ∷ 108 ∷ 100 ∷ 32 ∷ []

-- " in "
abbrev pub in_text : List ℕ
in_text = 32 ∷ 105 ∷ 110 ∷ 32 ∷ []

-- " chunks" and the line's end
abbrev pub chunks_text : List ℕ
chunks_text = 32 ∷ 99 ∷ 104 ∷ 117 ∷ 110 ∷ 107 ∷ 115 ∷ 10 ∷ []

-- "`N at OFFSET`", "`N done`", "`N refused R`"
unfoldable pub line_of : ℕ → Reply → List ℕ
line_of n (at_offset offset) = decimal n ++ (at_text ++ (decimal offset ++ newline))
line_of n done = decimal n ++ done_text
line_of n (refused r) = decimal n ++ (refused_text ++ (decimal (number_of r) ++ newline))

-- the line that an ending adds: none, "`N cut off`" or "`N bad record`"
unfoldable pub ending_line : ℕ → Ending → List ℕ
ending_line n complete = []
ending_line n cut_off = decimal n ++ cut_off_text
ending_line n bad_record = decimal n ++ bad_record_text

-- the lines of the replies, numbered from n, and of the ending
unfoldable pub lines_from : ℕ → List Reply → Ending → List ℕ
lines_from n [] e = ending_line n e
lines_from n (r ∷ rs) e = line_of n r ++ lines_from (n + 1) rs e

-- "Last line ..: `held H in C chunks`"
unfoldable pub held_line : Arena → List ℕ
held_line a = held_text ++ (decimal (held_bytes (held_of a)) ++ (in_text ++ (decimal a.head.count ++ chunks_text)))
