-- A record that is lent in parts: its head as five numbers, in the order in which they stand in it, and the three columns of its table.
use Rattle.std.specs.Prelude.{ℕ, List, get_or}
use Rattle.arena.specs.declared.Head.{Head}
use Rattle.arena.specs.declared.Arena.{Arena}
use Rattle.arena.specs.Record.{record_of}

unfoldable pub head_of : List ℕ → Head
head_of numbers =
    record {
      region = get_or numbers 0 0;
      minimum = get_or numbers 1 0;
      limited = get_or numbers 2 0;
      limit = get_or numbers 3 0;
      count = get_or numbers 4 0;
    }

abbrev pub parts_of : List ℕ → List ℕ → List ℕ → List ℕ → Arena
parts_of head starts sizes pointers = record_of (head_of head) starts sizes pointers
