use Rattle.pipe_rules.proofs.Served.{needs-serve}
use Rattle.pipe_rules.proofs.need_laws.needs_serve.Goals as goal

pub returns : goal.returns
returns c = needs-serve
