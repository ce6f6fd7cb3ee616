-- The spelling of edits: an array of the side, of what is done, and of the row, one cell for each column of the side's
-- table, as ["left","insert",[1,null]].
use Rattle.std.specs.Prelude.{◌≡◌, List, [], ◌∷◌, ⊤, Bool, true, false, ◌&&◌, map}
use Rattle.serde_json.specs.Data.{Data, string, array, item, no_items}
use Rattle.pipe_schema.specs.Rows.{Row}
use Rattle.pipe_schema.specs.declared.field.Field.{Field}
use Rattle.pipe_job.specs.Shape.{is_cell}
use Rattle.pipe_job.specs.Spelling.{list, cell_spelling, FitsType}
use Rattle.pipe_view.specs.declared.row_edit.RowEdit.{RowEdit}
use Rattle.pipe_view.specs.declared.side.ViewSide.{ViewSide}
use Rattle.pipe_view.specs.declared.side.ViewSide.TheVariants as side
use Rattle.pipe_view.specs.RawSpelling.{kind_name, raw_cell_spelling, raw_edit_spelling, side_name}
use Rattle.pipe_view.specs.declared.raw_cell.RawCell.{RawCell}
use Rattle.pipe_view.specs.declared.raw_edit.RawEdit.{RawEdit}

abbrev pub row_spelling : Row → Data
row_spelling row = list cell_spelling row

abbrev pub edit_spelling : RowEdit → Data
edit_spelling edit =
    array (item (string (side_name edit.side)) (item (string (kind_name edit.kind)) (item (row_spelling edit.row) no_items)))

-- one cell for each column, null or of its type
abbrev pub RowFits : List Field → Row → Type 0
RowFits [] [] = ⊤
RowFits [] (x ∷ row) = ⊥
RowFits (field ∷ fields) [] = ⊥
RowFits (field ∷ fields) (x ∷ row) = FitsType field.dtype x × RowFits fields row

-- the columns of a side
abbrev pub columns_on : ViewSide → (left right : List Field) → List Field
columns_on side.Left left right = left
columns_on side.Right left right = right

abbrev pub EditFits : (left right : List Field) → RowEdit → Type 0
EditFits left right edit = RowFits (columns_on edit.side left right) edit.row

-- ---- what has no type yet

-- cells are spelled as a row of these columns is
abbrev pub IsRowOf : List Field → List RawCell → Row → Type 0
IsRowOf fields cells row = (map raw_cell_spelling cells ≡ map cell_spelling row) × RowFits fields row

-- whether each cell may stand in its column, and there is one for each
abbrev pub are_cells : List Field → List RawCell → Bool
are_cells [] [] = true
are_cells [] (cell ∷ cells) = false
are_cells (field ∷ fields) [] = false
are_cells (field ∷ fields) (cell ∷ cells) = is_cell field.dtype (raw_cell_spelling cell) && are_cells fields cells

abbrev pub IsEditOf : (left right : List Field) → RawEdit → RowEdit → Type 0
IsEditOf left right raw edit = (raw_edit_spelling raw ≡ edit_spelling edit) × EditFits left right edit

abbrev pub is_edit : (left right : List Field) → RawEdit → Bool
is_edit left right raw = are_cells (columns_on raw.side left right) raw.cells

abbrev pub are_edits : (left right : List Field) → List RawEdit → Bool
are_edits left right [] = true
are_edits left right (raw ∷ raws) = is_edit left right raw && are_edits left right raws
