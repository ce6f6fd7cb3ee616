-- Columns side by side: their fields, their rows, and operations on them, column by column.
use Rattle.std.specs.Prelude.{ℕ, ◌+◌, Bool, true, List, [], ◌∷◌, ◌++◌, suc, Option, Some, map, take, drop, length, ◌≡◌, ◌==◌, if◌then◌else◌, None, All}
use Rattle.pipe_column.specs.Series.{Cells, cell_or_null, cell_at, chosen_cells}
use Rattle.std.specs.List.{range_with_len}
use Rattle.pipe_schema.specs.Rows.{Row}
use Rattle.pipe_schema.specs.declared.any_value.AnyValue.{AnyValue}
use Rattle.pipe_schema.specs.declared.field.Field.{Field}

abbrev pub field_of : Cells → Field
field_of column = record { name = column.name; dtype = column.dtype }

-- a column's cell at a place
abbrev pub cell_in : ℕ → Cells → AnyValue
cell_in i column = cell_at column.cells i

-- the row at a place of some columns
abbrev pub row_at : List Cells → ℕ → Row
row_at columns i = map (cell_in i) columns

-- the rows of some columns
abbrev pub column_rows : List Cells → ℕ → List Row
column_rows columns height = map (row_at columns) (range_with_len 0 height)

-- the height of the first column
abbrev pub height_of : List Cells → ℕ
height_of [] = 0
height_of (column ∷ columns) = length column.cells

-- the rows of columns of one height
abbrev pub even_rows : List Cells → List Row
even_rows columns = column_rows columns (height_of columns)

-- each column has so many cells
abbrev pub AllOfHeight : ℕ → List Cells → Type 0
AllOfHeight height columns = All (λ column. length column.cells ≡ height) columns

-- a column with the cells at these places
abbrev pub chosen_column : List ℕ → Cells → Cells
chosen_column places column = record column { cells = chosen_cells column.cells places }

abbrev pub chosen_columns : List Cells → List ℕ → List Cells
chosen_columns columns places = map (chosen_column places) columns

-- the first height that isn't this one
abbrev pub other_height : ℕ → List Cells → Option ℕ
other_height height [] = None
other_height height (column ∷ columns) =
    if length column.cells == height then other_height height columns else Some (length column.cells)

-- a column with the cells at these places, null where there is none
abbrev pub taken_column : List (Option ℕ) → Cells → Cells
taken_column places column = record column { cells = map (cell_or_null column.cells) places }

abbrev pub taken_columns : List (Option ℕ) → List Cells → List Cells
taken_columns places columns = map (taken_column places) columns

-- a column with so many of its cells from a place on
abbrev pub part_column : ℕ → ℕ → Cells → Cells
part_column from count column = record column { cells = take count (drop from column.cells) }

-- a column with so many of its cells from the front
abbrev pub front_column : ℕ → Cells → Cells
front_column count column = record column { cells = take count column.cells }

-- a column with the cells of another behind its own
abbrev pub stacked_column : Cells → Cells → Cells
stacked_column column other = record column { cells = column.cells ++ other.cells }

-- columns of which so many, from the front, have the cells of others behind their own
abbrev pub stacked_front : ℕ → List Cells → List Cells → List Cells
stacked_front (suc n) (column ∷ columns) (other ∷ others) =
    stacked_column column other ∷ stacked_front n columns others
stacked_front _ columns _ = columns

-- columns with the cells of others behind their own
abbrev pub stacked_columns : List Cells → List Cells → List Cells
stacked_columns columns others = stacked_front (length columns) columns others

-- the places where a mask is true, counted from n
abbrev pub true_places : ℕ → List (Option Bool) → List ℕ
true_places n [] = []
true_places n (Some true ∷ mask) = n ∷ true_places (n + 1) mask
true_places n (_ ∷ mask) = true_places (n + 1) mask
