use Rattle.std.proofs.Common.{◌≡◌, ◌++◌, drop, map}
use Rattle.serde_json.specs.View.{items_of}
use Rattle.serde_json.specs.Written.{items_text, compact_text}
use Rattle.pipe_job.specs.Spelling.{list, cell_spelling}
use Rattle.pipe_job.proofs.row_lines.push_row_line.Given as goal

abbrev pub invariant-loop-cell : goal.invariant-loop-cell
invariant-loop-cell l = l.out.items ++ items_text l.later (items_of (map cell_spelling (drop l.cell-index l.row))) ≡ l.fn.out.items ++ compact_text (list cell_spelling l.row)
