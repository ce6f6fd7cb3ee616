use Rattle.pipe_driver.proofs.Counting.{seen_all}
use Rattle.pipe_driver.proofs.step_laws.probe_sides_are_seen.Goals as goal

pub returns : goal.returns
returns c = seen_all
