use Rattle.pipe_view.specs.ReplaySpelling.{replay_task}
use Rattle.pipe_cli.proofs.ReplayLemmas.{told_unstopped}
use Rattle.pipe_cli.proofs.commands.replay_edits.lines_of.Goals as goal

pub returns-in-Err-clause-unstopped : goal.returns-in-Err-clause-unstopped
returns-in-Err-clause-unstopped c = λ same. told_unstopped c.refused.result (replay_task c.args.replay) c.in-Err.error c.in-Err.ensures.err c.refused.ensures same
