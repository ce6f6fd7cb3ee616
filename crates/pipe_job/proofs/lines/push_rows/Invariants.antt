use Rattle.std.proofs.Common.{◌≡◌, ◌-◌, ◌++◌, flat_map, map}
use Rattle.std.specs.List.{range_with_len}
use Rattle.pipe_column.specs.Columns.{row_at}
use Rattle.pipe_job.specs.Line.{row_line}
use Rattle.pipe_job.proofs.lines.push_rows.Given as goal

abbrev pub invariant-loop-i : goal.invariant-loop-i
invariant-loop-i l = l.out.items ++ flat_map row_line (map (row_at l.columns) (range_with_len l.i (l.height - l.i))) ≡ l.fn.out.items ++ flat_map row_line l.frame.rows
