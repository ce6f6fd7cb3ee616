-- Columns whose cells fit their type.
use Rattle.std.specs.Prelude.{◌≡◌, ℕ, List, true}
use Rattle.pipe_schema.specs.Cell.{fits_dtype}
use Rattle.pipe_frame.specs.Frame.{Table}
use Rattle.pipe_column.specs.Series.{Cells, cell_at}
use Rattle.pipe_plan.specs.Schemas.{frame_at}
use Rattle.pipe_events.specs.Fits.{FitRows}

-- each cell of a column is null or of the column's type; where there is no cell, it is null
pub record ColumnFits (column : Cells) : Type 0 where
  pub each : (i : ℕ) → fits_dtype column.dtype (cell_at column.cells i) ≡ true

-- the rows of a frame fit its schema
pub record TableFits (table : Table) : Type 0 where
  pub rows : FitRows table.schema table.rows

-- the rows of each of some frames fit its schema
abbrev pub TablesFit : List Table → Type 0
TablesFit tables = (i : ℕ) → FitRows (frame_at tables i).schema (frame_at tables i).rows
