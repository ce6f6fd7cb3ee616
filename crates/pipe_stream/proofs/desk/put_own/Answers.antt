use Rattle.std.proofs.Common.{rules}
use Rattle.pipe_stream.proofs.StepLemmas.{skip_reaches}
use Rattle.pipe_stream.proofs.desk.put_own.Goals as goal

pub returns-clause-reaches : goal.returns-clause-reaches
returns-clause-reaches g c = skip_reaches _ _ _ _ _ c.requires.number (search rules) c.requires.next c.requires.follows (search rules)
