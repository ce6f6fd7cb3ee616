use Rattle.pipe_driver.proofs.Runnable.{out_of_nodes}
use Rattle.pipe_driver.proofs.leg_laws.nodes_have_their_rows.Goals as goal

pub returns : goal.returns
returns c = out_of_nodes
