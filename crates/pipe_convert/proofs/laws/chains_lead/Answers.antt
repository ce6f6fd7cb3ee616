use Rattle.pipe_convert.proofs.ChainSteps.{chain_goes}
use Rattle.pipe_convert.proofs.laws.chains_lead.Goals as goal

pub returns : goal.returns
returns c = chain_goes
