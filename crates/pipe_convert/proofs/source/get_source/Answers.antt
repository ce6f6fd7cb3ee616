use Rattle.std.proofs.Common.{ap, ◌∙◌}
use Rattle.pipe_driver.specs.Shape.{kind_of}
use Rattle.pipe_convert.specs.Nodes.{nodes_in}
use Rattle.pipe_convert.proofs.source.get_source.Goals as goal

pub node_source-requires-clause-begins : goal.node_source-requires-clause-begins
node_source-requires-clause-begins c = ap (kind_of (nodes_in c.args.plan.now)) c.numbered.ensures ∙ c.requires.begins
