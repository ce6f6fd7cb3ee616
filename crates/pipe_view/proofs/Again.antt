-- What is spelled so has the shape.
use Rattle.std.proofs.Common.{◌≡◌, ◌<◌, ◌^◌, ℕ, ℤ, pos, negsuc, List, [], ◌∷◌, Bool, true, false, ◌&&◌, nat_lt, refl, ap, ap₂, sym, ◌∙◌, arith, inl, inr, true≢false}
use Rattle.std.specs.Prelude.{FitsSigned}
use Rattle.std.specs.Int.{w32, w64}
use Rattle.std.specs.List.{AllByRecursion}
use Rattle.serde_json.specs.Data.{number, string}
use Rattle.serde_json.specs.Find.{of_integer}
use Rattle.pipe_schema.specs.Rows.{Row}
use Rattle.pipe_schema.specs.declared.any_value.AnyValue.{AnyValue}
use Rattle.pipe_schema.specs.declared.any_value.AnyValue.TheVariants as cell
use Rattle.pipe_frame.specs.Frame.{Table}
use Rattle.pipe_schema.specs.declared.data_type.DataType.{DataType}
use Rattle.pipe_schema.specs.declared.data_type.DataType.TheVariants as dtype
use Rattle.pipe_schema.specs.declared.field.Field.{Field}
use Rattle.pipe_job.specs.FrameSpelling.{FrameFits, frame_spelling}
use Rattle.pipe_job.specs.Shape.{is_cell, is_frame, is_list, is_unsigned}
use Rattle.pipe_job.specs.Spelling.{cell_spelling, list, whole, FitsType}
use Rattle.pipe_job.specs.Version.{VersionFits}
use Rattle.std.proofs.lemmas.Bool.Decides.{nat_tests}
use Rattle.pipe_job.proofs.Again.{frame_again, unsigned_again}
use Rattle.pipe_view.specs.declared.row_edit.EditKind.{EditKind}
use Rattle.pipe_view.specs.declared.row_edit.EditKind.TheVariants as kind
use Rattle.pipe_view.specs.declared.row_edit.RowEdit.{RowEdit}
use Rattle.pipe_view.specs.declared.side.ViewSide.{ViewSide}
use Rattle.pipe_view.specs.declared.side.ViewSide.TheVariants as side
use Rattle.pipe_view.specs.EditSpelling.{EditFits, RowFits, columns_on, edit_spelling, row_spelling}
use Rattle.pipe_view.specs.RawReplays.{is_raw_replay}
use Rattle.pipe_view.specs.RawSpelling.{is_kind, is_raw_cell, is_raw_edit, is_side, kind_name, side_name}
use Rattle.pipe_view.specs.ReplaySpelling.{PartsFit, ReplayTask, replay_spelling}
use Rattle.pipe_view.proofs.Embedded.{decide, node_again}

small : (n m : ℕ) → n < m → nat_lt n m ≡ true
small n m h = grind (arith, nat_tests)

-- a signed number of at most 64 bits is a whole number below 2 ^ 64 or one from - 2 ^ 63
signed_again : (z : ℤ) → FitsSigned w64 z → is_raw_cell (number (of_integer z)) ≡ true
signed_again (pos n) h = small n (2 ^ 64) (omega (arith, h))
signed_again (negsuc n) h = small n (2 ^ 63) (omega (arith, h))

half_again : (z : ℤ) → FitsSigned w32 z → is_raw_cell (number (of_integer z)) ≡ true
half_again (pos n) h = small n (2 ^ 64) (omega (arith, h))
half_again (negsuc n) h = small n (2 ^ 63) (omega (arith, h))

-- ---- cells of a type: a frame of one cell is one

cell_table : DataType → AnyValue → Table
cell_table t x = record { schema = record { name = []; dtype = t } ∷ []; rows = (x ∷ []) ∷ [] }

cell_fits : (t : DataType) (x : AnyValue) → FitsType t x → FrameFits (cell_table t x)
unfolding cell_table
cell_fits t x h = record { schema = refl; even = refl; cells = ((h, tt), tt) }

no_cell_frame : (t : DataType) (x : AnyValue) → is_cell t (cell_spelling x) ≡ false → is_frame (frame_spelling (cell_table t x)) ≡ false
unfolding cell_table
no_cell_frame dtype.Int32 x none = rw none
no_cell_frame dtype.Int64 x none = rw none
no_cell_frame dtype.UInt32 x none = rw none
no_cell_frame dtype.UInt64 x none = rw none
no_cell_frame dtype.Boolean x none = rw none
no_cell_frame dtype.String x none = rw none
no_cell_frame dtype.Binary x none = rw none
no_cell_frame dtype.Int128 x none = rw none

pub cell_again : (t : DataType) (x : AnyValue) → FitsType t x → is_cell t (cell_spelling x) ≡ true
cell_again t x h = decide (is_cell t (cell_spelling x)) (λ none.
    true≢false (sym (frame_again (cell_table t x) (cell_fits t x h)) ∙ no_cell_frame t x none))

-- ---- what has no type yet

pub raw_cell_again : (t : DataType) (x : AnyValue) → FitsType t x → is_raw_cell (cell_spelling x) ≡ true
raw_cell_again t cell.Null h = refl
raw_cell_again t (cell.Int32 z) h = half_again z h.1
raw_cell_again t (cell.Int64 z) h = signed_again z h.1
raw_cell_again t (cell.UInt32 n) h = small n (2 ^ 64) (omega (arith, h.1))
raw_cell_again t (cell.UInt64 n) h = small n (2 ^ 64) h.1
raw_cell_again t (cell.Boolean b) h = refl
raw_cell_again t (cell.String s) h = refl
raw_cell_again t (cell.Binary b) h = refl
raw_cell_again t (cell.Int128 z) h = refl

raw_row_again : (fields : List Field) (row : Row) → RowFits fields row → is_list is_raw_cell (row_spelling row) ≡ true
raw_row_again [] [] h = refl
raw_row_again [] (x ∷ row) h = absurd h
raw_row_again (f ∷ fields) [] h = absurd h
raw_row_again (f ∷ fields) (x ∷ row) h = ap₂ (λ (a b : Bool). a && b) (raw_cell_again f.dtype x h.0) (raw_row_again fields row h.1)

side_again : (s : ViewSide) (rest : Bool) → rest ≡ true → (is_side (string (side_name s)) && rest) ≡ true
side_again side.Left rest h = h
side_again side.Right rest h = h

kind_again : (k : EditKind) (rest : Bool) → rest ≡ true → (is_kind (string (kind_name k)) && rest) ≡ true
kind_again kind.Insert rest h = h
kind_again kind.Remove rest h = h

pub raw_edit_again : (left right : List Field) (edit : RowEdit) → EditFits left right edit → is_raw_edit (edit_spelling edit) ≡ true
raw_edit_again left right edit h =
    let cells = is_list is_raw_cell (row_spelling edit.row) in
    side_again edit.side (is_kind (string (kind_name edit.kind)) && cells) (kind_again edit.kind cells (raw_row_again (columns_on edit.side left right) edit.row h))

raw_edits_again : (left right : List Field) (edits : List RowEdit) → AllByRecursion (EditFits left right) edits → is_list is_raw_edit (list edit_spelling edits) ≡ true
raw_edits_again left right [] h = refl
raw_edits_again left right (edit ∷ edits) h = ap₂ (λ (a b : Bool). a && b) (raw_edit_again left right edit h.0) (raw_edits_again left right edits h.1)

known_again : (n : ℕ) → VersionFits n → is_unsigned 32 (whole n) ≡ true
known_again n (inl e) = ap (λ (m : ℕ). is_unsigned 32 (whole m)) e
known_again n (inr e) = ap (λ (m : ℕ). is_unsigned 32 (whole m)) e

pub raw_again : (r : ReplayTask) → PartsFit r → is_raw_replay (replay_spelling r) ≡ true
raw_again r h = rw (
  raw_edits_again r.left.schema r.right.schema r.edits h.edits,
  frame_again r.left h.left,
  frame_again r.right h.right,
  node_again r.join h.join,
  unsigned_again 32 r.row_limit h.row_limit,
  known_again r.version h.version,
)
