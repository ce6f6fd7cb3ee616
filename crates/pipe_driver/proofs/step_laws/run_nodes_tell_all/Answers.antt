use Rattle.pipe_driver.proofs.Reached.{all_within, run_low}
use Rattle.pipe_driver.proofs.step_laws.run_nodes_tell_all.Goals as goal

pub returns : goal.returns
returns c = record { all = all_within; low = run_low }
