-- What a turn of calls asks of each.
use Rattle.std.specs.Prelude.{◌≡◌, true}
use Rattle.arena.specs.declared.Arena.{Arena}
use Rattle.arena.specs.declared.change.Change.{Change}
use Rattle.arena.specs.Sound.{sound_of}
use Rattle.arena.specs.Inner.{changed_by}

-- a change that leaves this record sound
abbrev pub Keeps : Arena → Change → Type 0
Keeps a change = sound_of (changed_by change a) ≡ true
