use Rattle.std.proofs.Common.{ap, sym, ◌∙◌}
use Rattle.pipe_job.specs.Line.{row_line}
use Rattle.pipe_job.proofs.Rows.{row_in}
use Rattle.pipe_job.proofs.lines.row_line.Goals as goal

pub returns : goal.returns
returns c =
    let here = row_in c.get_columns.result.now _ _ c.args.i c.get_columns.ensures.rows c.requires in
    c.from_vec.ensures ∙ rw c.new-out.ensures.items at c.in_ok-push_row.ensures ∙ ap row_line (sym here)
