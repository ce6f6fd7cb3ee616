use Rattle.pipe_driver.specs.Meaning.{meaning_of}
use Rattle.pipe_driver.specs.Legs.{ways_of}
use Rattle.pipe_driver.proofs.Sounds.{are_sound}
use Rattle.pipe_driver.proofs.Runnable.{can_run}
use Rattle.pipe_driver.proofs.Starts.{starts}
use Rattle.pipe_driver.proofs.step_laws.plans_start.Goals as goal

pub returns : goal.returns
returns c = λ plan root w counts good start. starts (meaning_of plan root) w counts (ways_of plan root) (are_sound plan root good) (can_run plan root good) start
