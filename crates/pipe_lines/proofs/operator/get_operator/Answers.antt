use Rattle.std.proofs.Common.{ap, ◌∙◌}
use Rattle.pipe_lines.specs.Made.{lets_through}
use Rattle.pipe_lines.proofs.SpecAt.{lets}
use Rattle.pipe_lines.proofs.operator.get_operator.Goals as goal

pub numbered-requires : goal.numbered-requires
numbered-requires g c = c.requires.through.1.under

pub node_operator-requires-clause-under : goal.node_operator-requires-clause-under
node_operator-requires-clause-under g c = λ κs lives. c.requires.through.1.under

pub node_operator-requires-clause-through : goal.node_operator-requires-clause-through
node_operator-requires-clause-through g c = λ κs lives. (ap lets_through c.numbered.ensures ∙ lets c.args.plan.now c.args.n c.requires.through.0 c.known_well_formed.ensures c.requires.through.1)

pub node_operator-requires-clause-specs : goal.node_operator-requires-clause-specs
node_operator-requires-clause-specs g c = λ κs lives. c.requires.specs

pub node_operator-requires-clause-is : goal.node_operator-requires-clause-is
node_operator-requires-clause-is g c = λ κs lives. c.numbered.ensures

pub node_operator-requires-clause-workers : goal.node_operator-requires-clause-workers
node_operator-requires-clause-workers g c = λ κs lives. c.requires.workers
