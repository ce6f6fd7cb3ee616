-- Rows whose cells are all of fixed width and none null: in one buffer each has the same width, and is filled column by column.
use Rattle.std.specs.Prelude.{◌≡◌, ℕ, ◌+◌, ◌*◌, ◌<◌, ◌≤◌, List, [], ◌∷◌, ◌++◌, Bool, true, false, Option, Some, None, length, map, take, drop}
use Rattle.pipe_schema.specs.Sizes.{width_of}
use Rattle.pipe_schema.specs.declared.any_value.AnyValue.{AnyValue}
use Rattle.pipe_column.specs.Columns.{height_of}
use Rattle.pipe_column.specs.Native.{InRange}
use Rattle.pipe_column.specs.Series.{Cells, cell_at}
use Rattle.pipe_rows.specs.Encoded.{Encoded}
use Rattle.pipe_rows.specs.Encodings.{encoded_rows, cell_bytes_at, row_bytes_at, null_at_place, null_in_row, AreCells, AreTypedRows}
use Rattle.pipe_rows.specs.declared.encoding.Encoding.{Encoding}

-- how many bytes a cell of a column has that isn't null, the byte before its value included
abbrev pub cell_width : Cells → ℕ
cell_width column = 1 + width_of column.dtype

-- how many bytes the cells of a row have
abbrev pub row_width : List Cells → ℕ
row_width [] = 0
row_width (column ∷ columns) = cell_width column + row_width columns

-- the first bytes of the row at a place, in a buffer of rows of a width
abbrev pub front_of : ℕ → ℕ → List ℕ → ℕ → List ℕ
front_of width count bytes i = take count (drop (i * width) bytes)

-- the cells of a column whose values are these
abbrev pub cells_there : {T : Type 0} → (Option T → AnyValue) → List T → List AnyValue
cells_there cell xs = map cell (map Some xs)

-- the first of some values are written, each at an offset of its row, and each is within its range
pub record Written {T : Type 0} (cell : Option T → AnyValue) (e : Encoding) (size width offset : ℕ) (xs : List T) (n : ℕ) (before after : List ℕ) : Type 0 where
  pub long : length after ≡ length before
  pub done : (i : ℕ) → i < n → i < length xs → front_of width (offset + size) after i ≡ front_of width offset before i ++ cell_bytes_at e (cells_there cell xs) i
  pub rest : (i : ℕ) → n ≤ i → i < length xs → front_of width offset after i ≡ front_of width offset before i
  pub ranged : (i : ℕ) → i < n → i < length xs → InRange (cell_at (cells_there cell xs) i)

-- each row has the cell of a column behind its first bytes, and none of the cells is null
pub record Extended (e : Encoding) (width offset : ℕ) (column : Cells) (before after : List ℕ) : Type 0 where
  pub rows : (i : ℕ) → i < length column.cells → front_of width (offset + cell_width column) after i ≡ front_of width offset before i ++ cell_bytes_at e column.cells i
  pub cells : AreCells column
  pub there : (i : ℕ) → i < length column.cells → null_at_place column.cells i ≡ false

-- each row has the bytes of its cells, of which none is null
pub record Filled (encodings : List Encoding) (columns : List Cells) (height width : ℕ) (bytes : List ℕ) : Type 0 where
  pub rows : (i : ℕ) → i < height → front_of width width bytes i ≡ row_bytes_at encodings columns i
  pub cells : AreTypedRows columns height
  pub there : (i : ℕ) → i < height → null_in_row columns i ≡ false

-- rows, where there are any, are those of some columns
abbrev pub AreRowsOf : List Encoding → List Cells → Option (List Encoded) → Type 0
AreRowsOf encodings columns None = Unit {0}
AreRowsOf encodings columns (Some rows) =
    (rows ≡ encoded_rows encodings columns) × AreTypedRows columns (height_of columns)
