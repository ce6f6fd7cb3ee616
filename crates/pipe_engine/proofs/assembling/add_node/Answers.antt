use Rattle.pipe_engine.proofs.Lending.{one_more}
use Rattle.pipe_engine.proofs.assembling.add_node.Goals as goal

pub returns : goal.returns
returns c = λ k. one_more c.args.probers.now.left.items c.add.new.self.left.items c.args.node c.add.ensures.all k
