-- The columns of an unpivot are what becomes of the rows.
use Rattle.std.proofs.Common.{◌≡◌, ℕ, ◌+◌, ◌<◌, ◌≤◌, Bool, true, false, cond, List, [], ◌∷◌, ◌++◌, Some, None, length, map, get_or, take, drop, replicate, refl, ap, subst, sym, ◌∙◌, arith, length-append, append_assoc}
use Rattle.std.specs.Borrow.{Bor}
use Rattle.std.specs.List.{AllByRecursion, flat_map, range_with_len}
use Rattle.std.proofs.lemmas.List.{map-append, get_or-map}
use Rattle.std.proofs.lemmas.List.FromFn.{get_or-range_with_len, length-range_with_len}
use Rattle.pipe_schema.specs.Rows.{Row}
use Rattle.pipe_column.specs.Series.{Cells, named_cells}
use Rattle.pipe_schema.specs.Schema.{IsSchema, first_unknown, has_name, names_of}
use Rattle.pipe_column.specs.Columns.{AllOfHeight, field_of, cell_in, row_at, height_of}
use Rattle.pipe_frame.specs.Frame.{Table, table_of, sliced}
use Rattle.pipe_schema.specs.declared.any_value.AnyValue.{AnyValue}
use Rattle.pipe_schema.specs.declared.any_value.AnyValue.TheVariants as cell
use Rattle.pipe_schema.specs.declared.data_type.DataType.{DataType}
use Rattle.pipe_schema.specs.declared.data_type.DataType.TheVariants as dtype
use Rattle.pipe_schema.specs.declared.field.Field.{Field}
use Rattle.pipe_frame.proofs.Tables.{map_map, map_same}
use Rattle.pipe_expr.specs.Projections.{known_type, field_named, on_type, function_fields, function_rows, unpivoted_row}
use Rattle.pipe_expr.specs.Values.{named_cell}
use Rattle.pipe_expr.specs.declared.join_words.FunctionIR.{FunctionIR}
use Rattle.pipe_expr.specs.declared.join_words.FunctionIR.TheVariants as function
use Rattle.pipe_ops.proofs.MadeColumns.{made-even, made-height, made-table, made-fields}
use Rattle.pipe_ops.proofs.Projected.{AreTable}
use Rattle.pipe_source.specs.Applied.{applied, Applies, IsOfType, ReadsColumns}
use Rattle.pipe_source.specs.Unpivots.{unpivot_columns, repeated, name_cell, name_cells, repeated_cells, cell_named, column_at, flat_cells}
use Rattle.pipe_source.specs.Lent.{lent, whole_column, lent_row, cells_between, HasCells}
use Rattle.pipe_source.proofs.ColumnsAt.{cell-under, whole-height}
use Rattle.pipe_source.proofs.Ranges.{range-same, flat-same, map-flat, part-range, map-replicate, once}

-- names of two lists that are known
pub known-apart : (schema : List Field) (on index : List (List ℕ)) → first_unknown schema (on ++ index) ≡ None → (first_unknown schema on ≡ None) × (first_unknown schema index ≡ None)
known-apart schema [] index h = (refl, h)
known-apart schema (name ∷ on) index h =
    let split : (b : Bool) → has_name (names_of schema) name ≡ b → cond b (first_unknown schema (on ++ index)) (Some name) ≡ None → (cond b (first_unknown schema on) (Some name) ≡ None) × (first_unknown schema index ≡ None) = elim [
      | true ↦ λ same later. known-apart schema on index later
      | false ↦ λ other none. absurd (cc)
    ] in split (has_name (names_of schema) name) refl h

module _ (on index : List (List ℕ)) (variable value : List ℕ) (frame : Table) (from count : ℕ) where
  abbrev f : FunctionIR
  f = function.Unpivot on index variable value

  abbrev rows_at : List ℕ
  rows_at = repeated 1 from count

  abbrev places_at : List ℕ
  places_at = repeated (length on) from count

  abbrev chosen : List Cells
  chosen = map (column_at frame rows_at) on

  abbrev part : List Row
  part = take count (drop from frame.rows)

  -- the columns that come
  data Part : Type 0 where
    index_of : List ℕ → Part
    variable_of : Part
    value_of : Part

  abbrev parts : List Part
  parts = map index_of index ++ variable_of ∷ value_of ∷ []

  abbrev made : Part → Cells
  made (index_of name) = column_at frame places_at name
  made variable_of = named_cells variable dtype.String (repeated_cells on count)
  made value_of = named_cells value (on_type frame.schema on) (flat_cells chosen count)

  abbrev field_in : Part → Field
  field_in (index_of name) = field_named frame.schema name
  field_in variable_of = record { name = variable; dtype = dtype.String }
  field_in value_of = record { name = value; dtype = on_type frame.schema on }

  -- a row and the name of a column
  abbrev Pair : Type 0
  Pair = Row × List ℕ

  abbrev pair : Row → List ℕ → Pair
  pair row name = (row, name)

  abbrev pairs_of : Row → List Pair
  pairs_of row = map (pair row) on

  abbrev value_in : Pair → Part → AnyValue
  value_in p (index_of name) = named_cell frame.schema p.0 name
  value_in p variable_of = cell.String p.1
  value_in p value_of = named_cell frame.schema p.0 p.1

  fields-are : (x : Part) → field_of (made x) ≡ field_in x
  fields-are (index_of name) = refl
  fields-are variable_of = refl
  fields-are value_of = refl

  -- what stands for each row and name, by the places of the rows
  by-places : (g : Row → List ℕ → AnyValue) → from + count ≤ length frame.rows → flat_map (λ i. map (g (get_or frame.rows i [])) on) (range_with_len from count) ≡ map (λ p. g p.0 p.1) (flat_map pairs_of part)
  by-places g room =
      sym (part-range [] (λ row. map (g row) on) frame.rows from count room)
      ∙ flat-same (λ row. map (g row) on) (λ row. map (λ p. g p.0 p.1) (pairs_of row)) part (λ row. sym (map_map (λ p. g p.0 p.1) (pair row) on))
      ∙ sym (map-flat (λ p. g p.0 p.1) pairs_of part)

  place-cell : (name : List ℕ) (i : ℕ) → i < count → cell_in i (column_at frame rows_at name) ≡ cell_named frame name (from + i)
  place-cell name i less =
      ap (λ (l : List ℕ). get_or (map (cell_named frame name) l) i cell.Null) (once from count)
      ∙ get_or-map (cell_named frame name) (range_with_len from count) i 0 cell.Null (omega (arith, length-range_with_len from count))
      ∙ ap (cell_named frame name) (get_or-range_with_len from count i 0 less)

  -- the cells of a row under the names
  pub chosen-row : (i : ℕ) → i < count → row_at chosen (0 + i) ≡ map (named_cell frame.schema (get_or frame.rows (from + i) [])) on
  chosen-row i less =
      let zero_on : 0 + i ≡ i = omega arith in
      ap (row_at chosen) zero_on
      ∙ map_map (cell_in i) (column_at frame rows_at) on
      ∙ map_same (λ name. cell_in i (column_at frame rows_at name)) (named_cell frame.schema (get_or frame.rows (from + i) [])) on (λ name. place-cell name i less)

  cells-are : from + count ≤ length frame.rows → (x : Part) → (made x).cells ≡ map (λ p. value_in p x) (flat_map pairs_of part)
  cells-are room (index_of name) =
      map-flat (cell_named frame name) (replicate (length on)) (range_with_len from count)
      ∙ flat-same (λ i. map (cell_named frame name) (replicate (length on) i)) (λ i. map (λ n. cell_named frame name i) on) (range_with_len from count) (λ i. map-replicate (cell_named frame name) i on)
      ∙ by-places (λ row n. named_cell frame.schema row name) room
  cells-are room variable_of =
      range-same (name_cells on) (λ i. map name_cell on) 0 from count (λ i less. refl)
      ∙ by-places (λ row name. cell.String name) room
  cells-are room value_of =
      range-same (row_at chosen) (λ i. map (named_cell frame.schema (get_or frame.rows i [])) on) 0 from count chosen-row
      ∙ by-places (named_cell frame.schema) room

  apart : {B : Type 0} (g : Part → B) → map g parts ≡ map (λ name. g (index_of name)) index ++ g variable_of ∷ g value_of ∷ []
  apart g =
      map-append g (map index_of index) (variable_of ∷ value_of ∷ [])
      ∙ ap (λ l. l ++ g variable_of ∷ g value_of ∷ []) (map_map g index_of index)

  some-part : 0 < length parts
  some-part =
      let both : length parts ≡ length (map index_of index) + 2 = length-append (map index_of index) (variable_of ∷ value_of ∷ []) in
      omega arith

  -- what becomes of the rows
  rows-are : map (λ p. map (value_in p) parts) (flat_map pairs_of part) ≡ flat_map (function_rows f frame.schema) part
  rows-are =
      map-flat (λ p. map (value_in p) parts) pairs_of part
      ∙ flat-same (λ row. map (λ p. map (value_in p) parts) (pairs_of row)) (function_rows f frame.schema) part
      (λ row. map_map (λ p. map (value_in p) parts) (pair row) on
      ∙ map_same (λ name. map (value_in (pair row name)) parts) (unpivoted_row frame.schema index row) on (λ name. apart (value_in (pair row name))))

  -- the columns of an unpivot are a frame, that of the rows
  pub unpivoted-table : (columns : List Cells) → columns ≡ unpivot_columns on index variable value frame from count → from + count ≤ length frame.rows → IsSchema (function_fields f frame.schema) → AreTable columns (applied f (sliced from count frame))
  unpivoted-table columns made_so room good =
      let pairs = flat_map pairs_of part in
      let cells = cells-are room in
      let height = made-height ([], []) made field_in value_in pairs fields-are cells parts some-part in
      let table = made-table ([], []) made field_in value_in pairs fields-are cells parts some-part in
      let fields : map field_in parts ≡ function_fields f frame.schema = apart field_in in
      let whole : table_of (map made parts) (height_of (map made parts)) ≡ applied f (sliced from count frame) =
      table
      ∙ ap (λ s. record { schema = s; rows = map (λ p. map (value_in p) parts) pairs }) fields
      ∙ ap (λ r. record { schema = function_fields f frame.schema; rows = r }) rows-are in
      let are : AreTable (map made parts) (applied f (sliced from count frame)) = record {
        good = subst IsSchema (sym (made-fields ([], []) made field_in value_in pairs fields-are cells parts ∙ fields)) good;
        even = subst (λ n. AllOfHeight n (map made parts)) (sym height) (made-even ([], []) made field_in value_in pairs fields-are cells parts);
        whole = whole;
      } in
      subst (λ (cs : List Cells). AreTable cs (applied f (sliced from count frame))) (sym (made_so ∙ sym (apart made))) are

-- columns that are lent by their names, the first and the others
first-lent : (frame : Table) (name : List ℕ) (on : List (List ℕ)) (c : Bor Cells) (columns : List (Bor Cells)) → map lent (c ∷ columns) ≡ map (whole_column frame) (name ∷ on) → c.now ≡ whole_column frame name
first-lent frame name on c columns e = ap (λ (cs : List Cells). get_or cs 0 c.now) e

others-lent : (frame : Table) (name : List ℕ) (on : List (List ℕ)) (c : Bor Cells) (columns : List (Bor Cells)) → map lent (c ∷ columns) ≡ map (whole_column frame) (name ∷ on) → map lent columns ≡ map (whole_column frame) on
others-lent frame name on c columns e = ap (λ (cs : List Cells). drop 1 cs) e

-- the columns of one type that are unpivoted
pub lent-cells : (frame : Table) (dtype : DataType) (end : ℕ) (on : List (List ℕ)) (columns : List (Bor Cells)) → map lent columns ≡ map (whole_column frame) on → AllByRecursion (IsOfType frame.schema dtype) on → end ≤ length frame.rows → AllByRecursion (HasCells dtype end) columns
lent-cells frame dtype end on [] e typed room = tt
lent-cells frame dtype end [] (c ∷ columns) e typed room = cc
lent-cells frame dtype end (name ∷ on) (c ∷ columns) e typed room =
    let is = first-lent frame name on c columns e in
    let wide : length c.now.cells ≡ length frame.rows = ap (λ (x : Cells). length x.cells) is ∙ whole-height frame name in
    ((ap (λ (x : Cells). x.dtype) is ∙ ap known_type typed.0, omega arith), lent-cells frame dtype end on columns (others-lent frame name on c columns e) typed.1 room)

-- their cells at a place
lent-row : (frame : Table) (k : ℕ) (on : List (List ℕ)) (columns : List (Bor Cells)) → map lent columns ≡ map (whole_column frame) on → lent_row columns k ≡ map (named_cell frame.schema (get_or frame.rows k [])) on
lent-row frame k [] [] e = refl
lent-row frame k (name ∷ on) [] e = cc
lent-row frame k [] (c ∷ columns) e = cc
lent-row frame k (name ∷ on) (c ∷ columns) e =
    ap (λ x. x ∷ lent_row columns k) (ap (λ (x : Cells). cell_in k x) (first-lent frame name on c columns e) ∙ cell-under frame.schema name frame.rows k)
    ∙ ap (λ l. named_cell frame.schema (get_or frame.rows k []) name ∷ l) (lent-row frame k on columns (others-lent frame name on c columns e))

-- and of so many rows from a row on
lent-flat : (on : List (List ℕ)) (frame : Table) (from count : ℕ) (columns : List (Bor Cells)) → map lent columns ≡ map (whole_column frame) on → cells_between columns from count ≡ flat_cells (map (column_at frame (repeated 1 from count)) on) count
lent-flat on frame from count columns e =
    range-same (lent_row columns) (row_at (map (column_at frame (repeated 1 from count)) on)) from 0 count
    (λ i less. lent-row frame (from + i) on columns e ∙ sym (chosen-row on [] [] [] frame from count i less))

-- an unpivot that is well formed reads columns that are there
pub reads-of : (f : FunctionIR) (on index more others : List (List ℕ)) (variable value : List ℕ) (schema : List Field) → f ≡ function.Unpivot on index variable value → more ≡ on → others ≡ index → Applies f schema → ReadsColumns more others schema
reads-of f on index more others variable value schema is o i h =
    let reads : ReadsColumns on index schema = (subst (λ (g : FunctionIR). Applies g schema) is h).0 in
    subst (λ (ns : List (List ℕ)). ReadsColumns more ns schema) (sym i) (subst (λ (ns : List (List ℕ)). ReadsColumns ns index schema) (sym o) reads)

-- the columns that were made of it are its frame
pub unpivoted-by : (f : FunctionIR) (on index more others : List (List ℕ)) (variable value : List ℕ) (frame : Table) (from count : ℕ) (columns : List Cells) → f ≡ function.Unpivot on index variable value → more ≡ on → others ≡ index → columns ≡ unpivot_columns more others variable value frame from count → from + count ≤ length frame.rows → Applies f frame.schema → AreTable columns (applied f (sliced from count frame))
unpivoted-by f on index more others variable value frame from count columns is o i made room h =
    let good = (subst (λ (g : FunctionIR). Applies g frame.schema) is h).1 in
    let so : columns ≡ unpivot_columns on index variable value frame from count =
    made ∙ ap (λ (ns : List (List ℕ)). unpivot_columns ns others variable value frame from count) o ∙ ap (λ (ns : List (List ℕ)). unpivot_columns on ns variable value frame from count) i in
    subst (λ (g : FunctionIR). AreTable columns (applied g (sliced from count frame))) (sym is) (unpivoted-table on index variable value frame from count columns so room good)

-- the first column that is unpivoted has the type of all
pub first-type : (frame : Table) (on : List (List ℕ)) (columns : List (Bor Cells)) (column : Bor Cells) → 0 < length on → map lent columns ≡ map (whole_column frame) on → column ≡ get_or columns 0 column → column.now.dtype ≡ on_type frame.schema on
first-type frame [] columns column some e is = absurd (omega arith)
first-type frame (name ∷ on) [] column some e is = cc
first-type frame (name ∷ on) (c ∷ columns) column some e is =
    ap (λ (x : Bor Cells). x.now.dtype) is ∙ ap (λ (x : Cells). x.dtype) (first-lent frame name on c columns e)

-- the columns, made one after another
pub assembled : (on index : List (List ℕ)) (variable value own other : List ℕ) (frame : Table) (from count : ℕ) (places : List ℕ) (type : DataType) (slice : List (Bor Cells)) (columns first all : List Cells) (names values : Cells) → places ≡ repeated (length on) from count → map lent slice ≡ map (whole_column frame) on → columns ≡ map (column_at frame places) index → own ≡ variable → other ≡ value → type ≡ on_type frame.schema on → names ≡ named_cells own dtype.String (repeated_cells on count) → values ≡ named_cells other type (cells_between slice from count) → first ≡ columns ++ names ∷ [] → all ≡ first ++ values ∷ [] → all ≡ unpivot_columns on index variable value frame from count
assembled on index variable value own other frame from count places type slice columns first all names values p s co v o t n u f a =
    let kept : List Cells = map (column_at frame (repeated (length on) from count)) index in
    let col : columns ≡ kept = co ∙ ap (λ ps. map (column_at frame ps) index) p in
    let nam : names ≡ named_cells variable dtype.String (repeated_cells on count) = n ∙ ap (λ x. named_cells x dtype.String (repeated_cells on count)) v in
    let val : values ≡ named_cells value (on_type frame.schema on) (flat_cells (map (column_at frame (repeated 1 from count)) on) count) =
    u ∙ ap (λ x. named_cells x type (cells_between slice from count)) o
    ∙ ap (λ x. named_cells value x (cells_between slice from count)) t
    ∙ ap (named_cells value (on_type frame.schema on)) (lent-flat on frame from count slice s) in
    a ∙ ap (λ (l : List Cells). l ++ values ∷ []) f
    ∙ append_assoc columns (names ∷ []) (values ∷ [])
    ∙ ap (λ (l : List Cells). l ++ names ∷ values ∷ []) col
    ∙ ap (λ (x : Cells). kept ++ x ∷ values ∷ []) nam
    ∙ ap (λ (x : Cells). kept ++ named_cells variable dtype.String (repeated_cells on count) ∷ x ∷ []) val
