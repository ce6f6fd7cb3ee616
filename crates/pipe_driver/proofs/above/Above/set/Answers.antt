use Rattle.std.proofs.Common.{arith}
use Rattle.pipe_driver.proofs.Lists.{set-seen}
use Rattle.pipe_driver.proofs.above.Above.set.Goals as goal

pub returns : goal.returns
returns c = set-seen c.self.inside.steps.items c.args.self.now c.len.result c.args.k c.args.step (cc) (omega arith) c.requires
