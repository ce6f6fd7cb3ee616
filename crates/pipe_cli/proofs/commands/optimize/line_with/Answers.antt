use Rattle.std.proofs.Common.{map}
use Rattle.pipe_job.specs.JobSpelling.{task_of}
use Rattle.pipe_plan.specs.Node.{node_of}
use Rattle.pipe_cli.proofs.OptimizeLemmas.{line_made}
use Rattle.pipe_cli.proofs.commands.optimize.line_with.Goals as goal

pub returns-clause-line : goal.returns-clause-line
returns-clause-line c =
    line_made (task_of c.args.job) (map node_of c.args.made.nodes) c.args.made.root c.in_ok-job_line.field-0.items c.requires.fits c.requires.made c.in_ok-job_line.ensures.ranges c.in_ok-job_line.ensures.text
    c.in_ok-job_line.ensures.reads_back
