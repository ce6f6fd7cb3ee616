use Rattle.pipe_driver.proofs.RunNodes.{begin_run, chains_run}
use Rattle.pipe_driver.proofs.step_laws.legs_go_through_run_nodes.Goals as goal

pub returns : goal.returns
returns c = record { chains = chains_run; begin = begin_run }
