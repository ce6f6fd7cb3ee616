use Rattle.pipe_driver.proofs.Sounds.{are_sound}
use Rattle.pipe_driver.proofs.leg_laws.meanings_are_sound.Goals as goal

pub returns : goal.returns
returns c = are_sound
