-- Frames (relational algebra): a frame stands for its schema and its list of rows.
use Rattle.std.specs.Prelude.{ℕ, ◌+◌, ◌<◌, List, [], ◌∷◌, ◌++◌, take, drop, if◌then◌else◌, Option, Some, None, map, length, replicate, slice_get, slice_index_or, filter_map, option_map}
use Rattle.pipe_schema.specs.Rows.{Row}
use Rattle.pipe_column.specs.Series.{Cells, cell_at}
use Rattle.pipe_schema.specs.Cell.{is_true_cell}
use Rattle.pipe_schema.specs.Schema.{names_of, names_fault, place_of, first_unknown}
use Rattle.pipe_schema.specs.declared.any_value.AnyValue.{AnyValue}
use Rattle.pipe_schema.specs.declared.any_value.AnyValue.TheVariants as cell
use Rattle.pipe_schema.specs.declared.field.Field.{Field}
use Rattle.pipe_schema.specs.declared.error.FrameError.{FrameError}
use Rattle.pipe_schema.specs.declared.error.FrameError.TheVariants as fault
use Rattle.pipe_column.specs.Columns.{field_of, column_rows, height_of, other_height}

-- a frame as its reader sees it
pub record Table : Type 0 where
  pub schema : List Field
  pub rows : List Row

-- the frame of some columns
abbrev pub table_of : List Cells → ℕ → Table
table_of columns height = record { schema = map field_of columns; rows = column_rows columns height }

-- the rows at these places
abbrev pub chosen_rows : List Row → List ℕ → List Row
chosen_rows rows places = map (λ i. slice_index_or rows i []) places

-- a row's cell in a column
abbrev pub cell_of_row : ℕ → Row → AnyValue
cell_of_row i row = cell_at row i

-- the columns of a frame
abbrev pub column_of : List Row → ℕ → Field → Cells
column_of rows i field = record { name = field.name; dtype = field.dtype; cells = map (cell_of_row i) rows }

abbrev pub columns_from : ℕ → List Field → List Row → List Cells
columns_from i [] rows = []
columns_from i (field ∷ fields) rows = column_of rows i field ∷ columns_from (i + 1) fields rows

abbrev pub columns_of : Table → List Cells
columns_of table = columns_from 0 table.schema table.rows

abbrev pub differing : ℕ → Option ℕ → Option FrameError
differing first None = None
differing first (Some other) = Some (fault.Height first other)

abbrev pub else_fault : Option FrameError → Option FrameError → Option FrameError
else_fault (Some e) later = Some e
else_fault None later = later

-- why some columns are no frame, if they aren't: the least of the errors
abbrev pub frame_fault : List Cells → Option FrameError
frame_fault columns =
    else_fault (names_fault (names_of (map field_of columns))) (differing (height_of columns) (other_height (height_of columns) columns))

-- a frame with other rows
abbrev pub with_rows : Table → List Row → Table
with_rows table rows = record table { rows = rows }

-- the rows at these places
abbrev pub chosen : Table → List ℕ → Table
chosen table places = with_rows table (chosen_rows table.rows places)

-- so many rows from a place on
abbrev pub sliced : ℕ → ℕ → Table → Table
sliced offset count table = with_rows table (take count (drop offset table.rows))

-- the rows of another frame behind those of a frame
abbrev pub stacked : Table → Table → Table
stacked table other = with_rows table (table.rows ++ other.rows)

-- a row number that is there, or none
abbrev pub IsRowOrNone : ℕ → Option ℕ → Type 0
IsRowOrNone height (Some i) = i < height
IsRowOrNone height None = Unit {0}

-- the row at a place, or a row of nulls where there is none
abbrev pub row_or_nulls : Table → Option ℕ → Row
row_or_nulls table (Some i) = slice_index_or table.rows i []
row_or_nulls table None = replicate (length table.schema) cell.Null

-- the rows at these places, and a row of nulls where there is none
abbrev pub taken : Table → List (Option ℕ) → Table
taken table places = with_rows table (map (row_or_nulls table) places)

-- the rows where a mask is true (SQL: null is not true)
abbrev pub kept_rows : List AnyValue → List Row → List Row
kept_rows (keep ∷ mask) (row ∷ rows) =
    if is_true_cell keep then row ∷ kept_rows mask rows else kept_rows mask rows
kept_rows _ _ = []

-- the rows of a frame where a mask is true (selection of relational algebra)
abbrev pub filtered : List AnyValue → Table → Table
filtered mask table = with_rows table (kept_rows mask table.rows)

-- what stands at these places of a list
abbrev pub at_places : {X : Type 0} → List X → List ℕ → List X
at_places xs places = filter_map (slice_get xs) places

-- where the first field of a name stands
abbrev pub place_named : List Field → List ℕ → Option ℕ
place_named fields name = place_of name fields

-- where the fields of these names stand
abbrev pub places_named : List Field → List (List ℕ) → List ℕ
places_named fields names = filter_map (place_named fields) names

-- the columns of these names, in the order of the names
abbrev pub columns_named : List Field → List (List ℕ) → List Cells → List Cells
columns_named fields names columns = at_places columns (places_named fields names)

-- a row's cells at these places
abbrev pub row_at_places : List ℕ → Row → Row
row_at_places places row = at_places row places

-- the frame of the columns of these names, in the order of the names (projection)
abbrev pub selected : Table → List (List ℕ) → Table
selected table names =
    let places = places_named table.schema names in
    record { schema = at_places table.schema places; rows = map (row_at_places places) table.rows }

-- a name that no field has, if there is one
abbrev pub unknown_fault : List Field → List (List ℕ) → Option FrameError
unknown_fault fields names = option_map fault.UnknownColumn (first_unknown fields names)

-- why columns of these names can't be selected, if they can't: the least of the errors
abbrev pub select_fault : List Field → List (List ℕ) → Option FrameError
select_fault fields names = else_fault (names_fault names) (unknown_fault fields names)
