-- A row whose columns are each under one of the two encodings.
use Rattle.std.specs.Prelude.{◌≡◌, ℕ, ◌+◌, ◌<◌, List, [], ◌∷◌, ◌++◌, Bool, false, ◌||◌, length, map, slice_index_or}
use Rattle.pipe_schema.specs.Cell.{is_null_cell}
use Rattle.pipe_column.specs.Columns.{row_at, column_rows, height_of}
use Rattle.pipe_schema.specs.Rows.{Row}
use Rattle.pipe_column.specs.Series.{Cells, cell_at}
use Rattle.pipe_schema.specs.declared.any_value.AnyValue.{AnyValue}
use Rattle.pipe_schema.specs.declared.any_value.AnyValue.TheVariants as cell
use Rattle.pipe_rows.specs.Equality.{equality_cell, has_null_cell, IsCell, IsRow, dtypes_of}
use Rattle.pipe_rows.specs.Ordered.{ordered_cell}
use Rattle.pipe_rows.specs.Encoded.{Encoded}
use Rattle.pipe_rows.specs.Filling.{OpenRow, open_row_at, appended, appended_at, HasRoomAt}
use Rattle.pipe_rows.specs.declared.encoding.Encoding.{Encoding}
use Rattle.pipe_rows.specs.declared.encoding.Encoding.TheVariants as encoding

-- a cell under an encoding
abbrev pub encoded_cell : Encoding → AnyValue → List ℕ
encoded_cell encoding.Equality x = equality_cell x
encoded_cell (encoding.Ordered field) x = ordered_cell field.descending field.nulls_last x

-- a byte string under an encoding
abbrev pub encoded_binary : Encoding → List ℕ → List ℕ
encoded_binary e bytes = encoded_cell e (cell.Binary bytes)

-- a row: its cells in turn, each under its column's encoding
abbrev pub encoded_bytes : List Encoding → Row → List ℕ
encoded_bytes (e ∷ encodings) (x ∷ row) = encoded_cell e x ++ encoded_bytes encodings row
encoded_bytes _ _ = []

-- the same with a mark whether a cell is null
abbrev pub encoded_row : List Encoding → Row → Encoded
encoded_row encodings row = record { bytes = encoded_bytes encodings row; has_null = has_null_cell row }

-- the rows of some columns, each column under its encoding
abbrev pub encoded_rows : List Encoding → List Cells → List Encoded
encoded_rows encodings columns = map (encoded_row encodings) (column_rows columns (height_of columns))

-- the bytes of the cell at a place, and of the row at a place of some columns
abbrev pub cell_bytes_at : Encoding → List AnyValue → ℕ → List ℕ
cell_bytes_at e cells i = encoded_cell e (cell_at cells i)

abbrev pub row_bytes_at : List Encoding → List Cells → ℕ → List ℕ
row_bytes_at encodings columns i = encoded_bytes encodings (row_at columns i)

-- whether the cell at a place is null, and whether a cell of the row at a place is
abbrev pub null_at_place : List AnyValue → ℕ → Bool
null_at_place cells i = is_null_cell (cell_at cells i)

abbrev pub null_in_row : List Cells → ℕ → Bool
null_in_row columns i = has_null_cell (row_at columns i)

-- ---- what a pass over a column, or over all columns, does to each row

-- each row is as much wider as its bytes are many
abbrev pub WidthsGrow : (ℕ → List ℕ) → List ℕ → List ℕ → Type 0
WidthsGrow bytes before after = (i : ℕ) → i < length before → slice_index_or after i 0 ≡ slice_index_or before i 0 + length (bytes i)

-- each row is wider by its cell of a column, and by all its cells
abbrev pub ColumnWidens : Encoding → Cells → List ℕ → List ℕ → Type 0
ColumnWidens e column = WidthsGrow (cell_bytes_at e column.cells)

abbrev pub RowsWiden : List Encoding → List Cells → List ℕ → List ℕ → Type 0
RowsWiden encodings columns = WidthsGrow (row_bytes_at encodings columns)

-- each width is that of a row's bytes
abbrev pub HaveWidths : List Encoding → List Cells → ℕ → List ℕ → Type 0
HaveWidths encodings columns height widths = (i : ℕ) → i < height → slice_index_or widths i 0 ≡ length (row_bytes_at encodings columns i)

-- each row is marked where it was, or where it has a null
abbrev pub NullsMarked : (ℕ → Bool) → List Bool → List Bool → Type 0
NullsMarked null before after = (i : ℕ) → i < length before → slice_index_or after i false ≡ (slice_index_or before i false || null i)

-- each mark tells whether a row has a null
abbrev pub HaveMarks : (ℕ → Bool) → ℕ → List Bool → Type 0
HaveMarks null height marks = (i : ℕ) → i < height → slice_index_or marks i false ≡ null i

-- a row has the bytes of a cell behind those that it had
abbrev pub AppendsCell : Encoding → List AnyValue → ℕ → List OpenRow → List OpenRow → Type 0
AppendsCell e cells i before after = after ≡ appended_at before i (cell_bytes_at e cells i)

-- each row has its bytes behind those that it had
abbrev pub AllAppended : (ℕ → List ℕ) → List OpenRow → List OpenRow → Type 0
AllAppended bytes before after = (i : ℕ) → i < length before → open_row_at after i ≡ appended (bytes i) (open_row_at before i)

-- each row has room for its bytes
abbrev pub AllHaveRoom : (ℕ → List ℕ) → List OpenRow → Type 0
AllHaveRoom bytes rows = (i : ℕ) → i < length rows → HasRoomAt rows i (bytes i)

-- each cell of a column is one of its type
abbrev pub AreCells : Cells → Type 0
AreCells column = (i : ℕ) → i < length column.cells → IsCell column.dtype (cell_at column.cells i)

-- each row of some columns of a height has one cell of each column's type
abbrev pub AreTypedRows : List Cells → ℕ → Type 0
AreTypedRows columns height = (i : ℕ) → i < height → IsRow (dtypes_of columns) (row_at columns i)
