-- Cells of typed columns fit their types, and so do the rows of frames.
use Rattle.std.proofs.Common.{◌≡◌, ℕ, zero, suc, ◌+◌, ◌<◌, ◌≤◌, true, false, List, [], ◌∷◌, map, length, get_or, take, refl, ap, sym, ◌∙◌, subst, Option, Some, None}
use Rattle.std.specs.Prelude.{is_some, IfSome, All}
use Rattle.std.specs.List.{AllByRecursion, range_with_len}
use Rattle.std.proofs.lemmas.List.{take_all}
use Rattle.std.proofs.lemmas.List.Elements.{All-more, recursion_from_All}
use Rattle.pipe_schema.specs.Cell.{fits_dtype, fits_type, eq_dtype, dtype_of_cell}
use Rattle.pipe_column.specs.Series.{Cells, cell_at}
use Rattle.pipe_schema.specs.Rows.{Row}
use Rattle.pipe_column.specs.Columns.{field_of, row_at, column_rows}
use Rattle.pipe_frame.specs.Frame.{Table, columns_from, columns_of}
use Rattle.pipe_schema.specs.declared.any_value.AnyValue.{AnyValue}
use Rattle.pipe_schema.specs.declared.any_value.AnyValue.TheVariants as cell
use Rattle.pipe_schema.specs.declared.data_type.DataType.{DataType}
use Rattle.pipe_schema.specs.declared.data_type.DataType.TheVariants as dtype
use Rattle.pipe_schema.specs.declared.field.Field.{Field}
use Rattle.pipe_events.specs.Fits.{FitsRow, FitRows}
use Rattle.pipe_events.specs.Fitting.{ColumnFits, TableFits, TablesFit}

same-type : (d : DataType) → eq_dtype d d ≡ true
same-type dtype.Int32 = refl
same-type dtype.Int64 = refl
same-type dtype.UInt32 = refl
same-type dtype.UInt64 = refl
same-type dtype.Boolean = refl
same-type dtype.String = refl
same-type dtype.Binary = refl
same-type dtype.Int128 = refl

module _ {T : Type 0} (d : DataType) (value : Option T → AnyValue) (missing : value None ≡ cell.Null) (typed : (x : T) → dtype_of_cell (value (Some x)) ≡ Some d) where
  one-fits : (x : Option T) → fits_dtype d (value x) ≡ true
  one-fits None = ap (fits_dtype d) missing
  one-fits (Some x) = ap (fits_type d) (typed x) ∙ same-type d

  all-fit : (xs : List (Option T)) (i : ℕ) → fits_dtype d (cell_at (map value xs) i) ≡ true
  all-fit [] i = refl
  all-fit (x ∷ xs) zero = one-fits x
  all-fit (x ∷ xs) (suc i) = all-fit xs i

  -- the values are read from what was found, where something was
  pub values-fit : {R : Type 0} (column : Cells) (found : Option R) (read : R → List (Option T)) → column.dtype ≡ d → is_some found ≡ eq_dtype column.dtype d → IfSome found (λ r. column.cells ≡ map value (read r)) → ColumnFits column
  values-fit column None read is there cells = let yes : false ≡ true = there ∙ ap (λ t. eq_dtype t d) is ∙ same-type d in cc
  values-fit column (Some r) read is there cells = record { each = λ i. ap (λ t. fits_dtype t (cell_at column.cells i)) is ∙ ap (λ l. fits_dtype d (cell_at l i)) cells ∙ all-fit (read r) i }

-- ---- rows

pub fields-from : (i : ℕ) (fields : List Field) (rows : List Row) → map field_of (columns_from i fields rows) ≡ fields
fields-from i [] rows = refl
fields-from i (field ∷ fields) rows = ap (λ l. field ∷ l) (fields-from (i + 1) fields rows)

row-fits : (columns : List Cells) (i : ℕ) → AllByRecursion ColumnFits columns → FitsRow (map field_of columns) (row_at columns i)
row-fits [] i h = tt
row-fits (column ∷ columns) i h = (h.0.each i, row-fits columns i h.1)

rows-fit : (columns : List Cells) → AllByRecursion ColumnFits columns → (places : List ℕ) → FitRows (map field_of columns) (map (row_at columns) places)
rows-fit columns h [] = tt
rows-fit columns h (i ∷ places) = (row-fits columns i h, rows-fit columns h places)

table-fits : (table : Table) (columns : List Cells) → columns ≡ columns_of table → table.rows ≡ column_rows columns (length table.rows) → AllByRecursion ColumnFits columns → TableFits table
table-fits table columns is made h =
    let fields : map field_of columns ≡ table.schema = ap (map field_of) is ∙ fields-from 0 table.schema table.rows in
    record { rows = subst (λ s. FitRows s table.rows) fields (subst (FitRows (map field_of columns)) (sym made) (rows-fit columns h (range_with_len 0 (length table.rows)))) }

tables-fit : (tables : List Table) → AllByRecursion TableFits tables → TablesFit tables
tables-fit [] h i = tt
tables-fit (table ∷ tables) h zero = h.0.rows
tables-fit (table ∷ tables) h (suc i) = tables-fit tables h.1 i

-- all columns of a frame, and all frames
pub frame-fits : (table : Table) (columns : List Cells) (i : ℕ) → columns ≡ columns_of table → table.rows ≡ column_rows columns (length table.rows) → length columns ≤ i → All ColumnFits (take i columns) → TableFits table
frame-fits table columns i is made past h =
    table-fits table columns is made (recursion_from_All ColumnFits columns (subst (All ColumnFits) (take_all i columns past) h))

pub frames-fit : (tables : List Table) (i : ℕ) → length tables ≤ i → All TableFits (take i tables) → TablesFit tables
frames-fit tables i past h = tables-fit tables (recursion_from_All TableFits tables (subst (All TableFits) (take_all i tables past) h))

pub one-more : {X : Type 0} (P : X → Type 0) (xs : List X) (i : ℕ) (x : X) → i < length xs → x ≡ get_or xs i x → All P (take i xs) → P x → All P (take (i + 1) xs)
one-more P xs i x lt is h p = All-more P xs i x lt h (subst P is p)
