-- Edits that are played one after another: the tables after them, and what each adds to the view and takes from it.
use Rattle.std.specs.Prelude.{◌≡◌, ◌==◌, ◌⊎◌, List, [], ◌∷◌, length, if◌then◌else◌}
use Rattle.std.specs.List.{AllByRecursion}
use Rattle.pipe_frame.specs.Frame.{Table, with_rows}
use Rattle.pipe_schema.specs.Rows.{Row, eq_row}
use Rattle.pipe_view.specs.Kept.{Kept, view_rows, fields_on, times_on, with_row, IsOver}
use Rattle.pipe_view.specs.declared.error.ViewError.{ViewError}
use Rattle.pipe_view.specs.declared.error.ViewError.TheVariants as refusal
use Rattle.pipe_view.specs.declared.row_edit.EditKind.{EditKind}
use Rattle.pipe_view.specs.declared.row_edit.EditKind.TheVariants as kind
use Rattle.pipe_view.specs.declared.row_edit.Outcome.{Outcome}
use Rattle.pipe_view.specs.declared.row_edit.Outcome.TheVariants as outcome
use Rattle.pipe_view.specs.declared.row_edit.RowEdit.{RowEdit}
use Rattle.pipe_view.specs.declared.side.ViewSide.{ViewSide}
use Rattle.pipe_view.specs.declared.side.ViewSide.TheVariants as side

-- rows without the first one that is like this one, where there is one
abbrev pub without_first : Row → List Row → List Row
without_first row [] = []
without_first row (x ∷ rows) = if eq_row row x then rows else x ∷ without_first row rows

-- the rows of a list that stand in it more often than in another, as often as they do
abbrev pub beyond : List Row → List Row → List Row
beyond rows [] = rows
beyond rows (x ∷ others) = beyond (without_first x rows) others

-- a table with one row less, and a view with one less on a side
abbrev pub table_without : Row → Table → Table
table_without row table = with_rows table (without_first row table.rows)

abbrev pub without_row : ViewSide → Row → Kept → Kept
without_row side.Left row v = record v { left = table_without row v.left }
without_row side.Right row v = record v { right = table_without row v.right }

-- ---- one edit

abbrev pub after_kind : EditKind → ViewSide → Row → Kept → Kept
after_kind kind.Insert which row v = with_row which row v
after_kind kind.Remove which row v = without_row which row v

-- the tables after an edit
abbrev pub after_edit : RowEdit → Kept → Kept
after_edit edit v = after_kind edit.kind edit.side edit.row v

-- how many rows one view has beyond another, and the other beyond the one
abbrev pub changed : (before after : Kept) → Outcome
changed before after =
    outcome.Changed (length (beyond (view_rows after) (view_rows before))) (length (beyond (view_rows before) (view_rows after)))

-- what is told of an edit: what it changed, or that there is no such row
abbrev pub outcome_by : EditKind → ViewSide → Row → Kept → Outcome
outcome_by kind.Insert which row v = changed v (with_row which row v)
outcome_by kind.Remove which row v =
    if times_on which row v == 0 then outcome.Absent else changed v (without_row which row v)

abbrev pub outcome_of : RowEdit → Kept → Outcome
outcome_of edit v = outcome_by edit.kind edit.side edit.row v

-- ---- a list of edits

-- the tables after all of them
abbrev pub after_edits : List RowEdit → Kept → Kept
after_edits [] v = v
after_edits (edit ∷ edits) v = after_edits edits (after_edit edit v)

-- what is told of each
abbrev pub outcomes_of : List RowEdit → Kept → List Outcome
outcomes_of [] v = []
outcomes_of (edit ∷ edits) v = outcome_of edit v ∷ outcomes_of edits (after_edit edit v)

-- each row is as wide as its table
abbrev pub IsWide : Kept → RowEdit → Type 0
IsWide v edit = length edit.row ≡ length (fields_on edit.side v)

abbrev pub AreWide : List RowEdit → Kept → Type 0
AreWide edits v = AllByRecursion (IsWide v) edits

-- a row is put in, and a table or the view has too many then
abbrev pub IsTooMuch : RowEdit → Kept → Type 0
IsTooMuch edit v = (edit.kind ≡ kind.Insert) × IsOver (after_edit edit v)

-- why an edit can't be made: want of memory, or a row is put in, and a table or the view would have too many
abbrev pub IsEditRefusal : RowEdit → Kept → ViewError → Type 0
IsEditRefusal edit v e = (e ≡ refusal.Memory) ⊎ ((e ≡ refusal.TooMany) × IsTooMuch edit v)

-- edits of which one can't be made: the first, or one of those behind it once it was
abbrev pub IsStuck : List RowEdit → Kept → Type 0
IsStuck [] v = ⊥
IsStuck (edit ∷ edits) v = IsTooMuch edit v ⊎ IsStuck edits (after_edit edit v)

-- why a list of edits isn't played to its end
abbrev pub IsPlayRefusal : List RowEdit → Kept → ViewError → Type 0
IsPlayRefusal edits v e = (e ≡ refusal.Memory) ⊎ ((e ≡ refusal.TooMany) × IsStuck edits v)
