use Rattle.pipe_cli.proofs.Lawful.{lawful}
use Rattle.pipe_cli.proofs.laws.commands_are_lawful.Goals as goal

pub returns : goal.returns
returns c = lawful
