use Rattle.std.proofs.Common.{◌≡◌, ◌++◌, drop, map}
use Rattle.serde_json.specs.View.{items_of}
use Rattle.serde_json.specs.Written.{items_text, compact_text}
use Rattle.pipe_column.specs.Columns.{row_at}
use Rattle.pipe_job.specs.Spelling.{list, cell_spelling}
use Rattle.pipe_job.proofs.lines.push_cells.Given as goal

abbrev pub invariant-loop-column : goal.invariant-loop-column
invariant-loop-column l = l.out.items ++ items_text l.later (items_of (map cell_spelling (row_at (drop l.column-index l.columns) l.i))) ≡ l.fn.out.items ++ compact_text (list cell_spelling (row_at l.columns l.i))
