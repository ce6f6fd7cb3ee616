-- The spelling of edits whose cells have no type yet: an array of the side, of what is done, and of the row's cells, as
-- ["left","insert",[1,null]].
use Rattle.std.specs.Prelude.{◌<◌, ◌^◌, ℕ, ℤ, negsuc, pos, ⊤, List, Bool, true, false, ◌&&◌, ◌||◌, codes, nat_lt}
use Rattle.std.specs.List.{AllByRecursion}
use Rattle.serde_json.specs.Data.{Data, null, boolean, number, unsigned, negative, string, array, object, item, no_items}
use Rattle.pipe_job.specs.Shape.{is_list, is_word}
use Rattle.pipe_job.specs.Spelling.{list}
use Rattle.pipe_view.specs.declared.row_edit.EditKind.{EditKind}
use Rattle.pipe_view.specs.declared.row_edit.EditKind.TheVariants as kind
use Rattle.pipe_view.specs.declared.side.ViewSide.{ViewSide}
use Rattle.pipe_view.specs.declared.side.ViewSide.TheVariants as side
use Rattle.pipe_view.specs.declared.raw_cell.RawCell.{RawCell}
use Rattle.pipe_view.specs.declared.raw_cell.RawCell.TheVariants as raw
use Rattle.pipe_view.specs.declared.raw_edit.RawEdit.{RawEdit}

-- ---- cells

abbrev pub raw_cell_spelling : RawCell → Data
raw_cell_spelling raw.Null = null
raw_cell_spelling (raw.Boolean b) = boolean b
raw_cell_spelling (raw.Unsigned n) = number (unsigned n)
raw_cell_spelling (raw.Negative z) = number (negative z)
raw_cell_spelling (raw.String s) = string s

-- a number below 2 ^ 64, or one from - 2 ^ 63 that is below 0
abbrev pub IsBelowZero : ℤ → Type 0
IsBelowZero (pos n) = ⊥
IsBelowZero (negsuc n) = n < 2 ^ 63

abbrev pub RawCellFits : RawCell → Type 0
RawCellFits raw.Null = ⊤
RawCellFits (raw.Boolean b) = ⊤
RawCellFits (raw.Unsigned n) = n < 2 ^ 64
RawCellFits (raw.Negative z) = IsBelowZero z
RawCellFits (raw.String s) = ⊤

abbrev pub is_raw_cell : Data → Bool
is_raw_cell null = true
is_raw_cell (boolean b) = true
is_raw_cell (number (unsigned n)) = nat_lt n (2 ^ 64)
is_raw_cell (number (negative (negsuc n))) = nat_lt n (2 ^ 63)
is_raw_cell (number n) = false
is_raw_cell (string s) = true
is_raw_cell (array ds) = false
is_raw_cell (object ms) = false

-- ---- edits

abbrev pub side_name : ViewSide → List ℕ
side_name side.Left = codes "left"
side_name side.Right = codes "right"

abbrev pub kind_name : EditKind → List ℕ
kind_name kind.Insert = codes "insert"
kind_name kind.Remove = codes "remove"

abbrev pub is_side : Data → Bool
is_side d = is_word (codes "left") d || is_word (codes "right") d

abbrev pub is_kind : Data → Bool
is_kind d = is_word (codes "insert") d || is_word (codes "remove") d

-- an array of three
abbrev pub is_triple : Data → Bool
is_triple (array (item a (item b (item c no_items)))) = true
is_triple _ = false

abbrev pub raw_edit_spelling : RawEdit → Data
raw_edit_spelling edit =
    array (item (string (side_name edit.side)) (item (string (kind_name edit.kind)) (item (list raw_cell_spelling edit.cells) no_items)))

abbrev pub RawEditFits : RawEdit → Type 0
RawEditFits edit = AllByRecursion RawCellFits edit.cells

abbrev pub is_raw_edit : Data → Bool
is_raw_edit (array (item s (item k (item r no_items)))) = is_side s && (is_kind k && is_list is_raw_cell r)
is_raw_edit _ = false
