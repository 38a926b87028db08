-- A record that was found sound stands inside its region.
use Rattle.arena.proofs.Soundness.{ready-shut, lent-ready}
use Rattle.sizes.proofs.ask_rung.Goals as goal

pub invariant_of-inside : goal.invariant_of-inside
invariant_of-inside c = record { ready = ready-shut (lent-ready c.in_ok-sound.sound.lent c.in_ok-sound.sound.sound) }
