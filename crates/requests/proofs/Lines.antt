-- A line is short, and so is an ending. Assumes nothing.
use Prim.Native.Nat.{ℕ, ◌≤◌}
use native.Mathlib.Omega.{arith}
use mathlib.Core.List.{List, ◌++◌}
use lib.ListN.{length, length-append}
use Rattle.arena.specs.Refusals.{number_of}
use Rattle.requests.specs.Run.{Reply, at_offset, done, refused}
use Rattle.arena.specs.declared.Arena.{Arena}
use Rattle.arena.specs.Record.{held_of}
use Rattle.arena.specs.Ladder.{held_bytes}
use Rattle.requests.specs.Front.{front_of}
use Rattle.requests.specs.Parsed.{Ending, complete, cut_off, bad_record}
use Rattle.requests.specs.Machine.{Stage, heading, running, stopped, ending_at, ending_text}
use Rattle.requests.specs.Text.{decimal, newline, at_text, done_text, refused_text, cut_off_text, bad_record_text, held_text, in_text, chunks_text, line_of, ending_line, held_line}
use Rattle.requests.proofs.Decimal.{decimal-length}

ended-length : (n k : ℕ) (text : List ℕ) → length text ≤ 9 → length (decimal n ++ (text ++ (decimal k ++ newline))) ≤ 50
ended-length n k text h =
    omega (
      arith,
      length-append (decimal n) (text ++ (decimal k ++ newline)),
      length-append text (decimal k ++ newline),
      length-append (decimal k) newline,
      decimal-length n,
      decimal-length k,
    )

pub line-length : (n : ℕ) (r : Reply) → length (line_of n r) ≤ 50
unfolding line_of
line-length n (at_offset offset) = ended-length n offset at_text (omega arith)
line-length n done = omega (arith, length-append (decimal n) done_text, decimal-length n)
line-length n (refused r) = ended-length n (number_of r) refused_text (omega arith)

ending-line-length : (n : ℕ) (e : Ending) → length (ending_line n e) ≤ 32
unfolding ending_line
ending-line-length n complete = omega arith
ending-line-length n cut_off = omega (arith, length-append (decimal n) cut_off_text, decimal-length n)
ending-line-length n bad_record = omega (arith, length-append (decimal n) bad_record_text, decimal-length n)

pub ending-length : (stage : Stage) (n : ℕ) (rest : List ℕ) → length (ending_text stage n rest) ≤ 32
unfolding ending_text
ending-length heading n rest = omega arith
ending-length running n rest = ending-line-length n (ending_at (front_of rest))
ending-length stopped n rest = omega arith

pub held-length : (a : Arena) → length (held_line a) ≤ 64
unfolding held_line
held-length a =
    let bytes = decimal (held_bytes (held_of a)) in
    let count = decimal a.head.count in
    omega (
      arith,
      length-append held_text (bytes ++ (in_text ++ (count ++ chunks_text))),
      length-append bytes (in_text ++ (count ++ chunks_text)),
      length-append in_text (count ++ chunks_text),
      length-append count chunks_text,
      decimal-length (held_bytes (held_of a)),
      decimal-length a.head.count,
    )
