use Rattle.pipe_cli.proofs.StreamLemmas.{noted}
use Rattle.pipe_cli.proofs.program.note.Goals as goal

pub returns : goal.returns
returns g c = noted _ c.line.result.now _ _ c.write_whole.result (cc) c.write_whole.ensures.ok c.write_whole.ensures.err c.write_whole.ensures.cause
