use Rattle.pipe_driver.proofs.Shares.{share_alike, own_alike}
use Rattle.pipe_driver.proofs.chain_laws.joins_heed_no_order.Goals as goal

pub returns-clause-shares : goal.returns-clause-shares
returns-clause-shares c = share_alike

pub returns-clause-own : goal.returns-clause-own
returns-clause-own c = own_alike
