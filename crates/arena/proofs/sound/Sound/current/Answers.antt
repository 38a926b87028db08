-- `arena::sound::Sound::current` meets its contract: a sound record has no more chunks than places. Assumes nothing.
use Rattle.arena.proofs.Soundness.{sound-open}
use Rattle.arena.proofs.sound.Sound.current.Goals as goal

pub current-requires : goal.current-requires
current-requires c = (sound-open _ c.args.self.now.sound).head.count_bound
