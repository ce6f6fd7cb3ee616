-- The columns of chunks, taken one after another.
use Rattle.std.specs.Prelude.{◌≡◌, ℕ, List, [], ◌∷◌, ◌++◌, drop}
use Rattle.pipe_frame.specs.Frame.{columns_of}
use Rattle.pipe_column.specs.Series.{Cells}
use Rattle.pipe_schema.specs.declared.any_value.AnyValue.{AnyValue}
use Rattle.pipe_frame.specs.declared.chunk.DataChunk.{DataChunk}
use Rattle.pipe_schema.specs.declared.data_type.DataType.{DataType}

-- the cells of the first column
abbrev pub first_cells : List Cells → List AnyValue
first_cells [] = []
first_cells (column ∷ columns) = column.cells

-- the columns behind the first
abbrev pub others : List Cells → List Cells
others [] = []
others (column ∷ columns) = columns

-- there is a first column, and it is of this type
abbrev pub BeginsWith : DataType → List Cells → Type 0
BeginsWith dtype [] = ⊥
BeginsWith dtype (column ∷ columns) = dtype ≡ column.dtype

abbrev pub chunk_columns : DataChunk → List Cells
chunk_columns chunk = columns_of chunk.frame

-- the columns of a chunk from a place on
abbrev pub columns_left : ℕ → DataChunk → List Cells
columns_left k chunk = drop k (chunk_columns chunk)

-- a column with further cells
abbrev pub with_cells : Cells → List AnyValue → Cells
with_cells column more = record column { cells = column.cells ++ more }
