-- `fast::reset::miravoly_sound_reset` meets its contract: of a sound record the current chunk is kept. Assumes nothing.
use Rattle.fast.proofs.InParts.{reset-done}
use Rattle.fast.proofs.reset.miravoly_sound_reset.Goals as goal

pub returns : goal.returns
returns c =
    let done = reset-done _ c.requires in
    record { value = rw done c.into.ensures; pointers_after = rw done c.make_in_parts.ensures }
