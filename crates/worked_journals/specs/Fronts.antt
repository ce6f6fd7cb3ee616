-- What a run of pipelines, front part by front part, gives.
use Rattle.std.specs.Prelude.{Option, Some, None}
use Rattle.pipe_schema.specs.Rows.{Same}
use Rattle.pipe_frame.specs.Frame.{Table}
use Rattle.pipe_check.specs.Checked.{Checked}
use Rattle.pipe_convert.specs.Nodes.{rows_in}

-- the rows of the plan's root, where it gives rows
abbrev pub HasRows : Checked → Option Table → Type 0
HasRows plan None = Unit {0}
HasRows plan (Some frame) = Same frame.rows (rows_in plan plan.root)
