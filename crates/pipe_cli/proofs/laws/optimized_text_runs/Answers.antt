use Rattle.pipe_cli.proofs.OptimizeLemmas.{text_gives_rows, text_runs}
use Rattle.pipe_cli.proofs.laws.optimized_text_runs.Goals as goal

pub returns-clause-runs : goal.returns-clause-runs
returns-clause-runs c = text_runs

pub returns-clause-rows : goal.returns-clause-rows
returns-clause-rows c = text_gives_rows
