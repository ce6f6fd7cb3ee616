-- A frame under other names.
use Rattle.std.specs.Prelude.{List, map}
use Rattle.pipe_frame.specs.Frame.{Table}
use Rattle.pipe_column.specs.Series.{Cells, named_cells}
use Rattle.pipe_expr.specs.Projections.{renamed, renamed_field}
use Rattle.pipe_expr.specs.declared.join_words.RenamePair.{RenamePair}

-- a column under the name that it gets
abbrev pub renamed_column : List RenamePair → Cells → Cells
renamed_column pairs column = named_cells (renamed pairs column.name) column.dtype column.cells

-- a frame whose columns have the names that they get
abbrev pub renamed_frame : List RenamePair → Table → Table
renamed_frame pairs frame =
    record { schema = map (renamed_field pairs) frame.schema; rows = frame.rows }
