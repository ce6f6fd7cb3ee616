use Rattle.pipe_chain.proofs.FlowLemmas.{flows-both}
use Rattle.pipe_chain.proofs.laws.flows_add_up.Goals as goal

pub returns : goal.returns
returns c = λ works a b rows more out later f g. flows-both works a b rows more out later f g
