-- The keys of a frame's rows, by the frame of its key columns.
use Rattle.std.proofs.Common.{◌≡◌, ℕ, ◌+◌, ◌<◌, List, [], ◌∷◌, Option, Some, None, length, map, refl, ap, sym, subst, ◌∙◌, arith}
use Rattle.std.specs.Prelude.{All, slice_index_or}
use Rattle.std.specs.List.{range_with_len}
use Rattle.std.proofs.lemmas.List.{get_or-map, length-map}
use Rattle.std.proofs.lemmas.List.FromFn.{get_or-map-range_with_len}
use Rattle.pipe_column.specs.Columns.{AllOfHeight, column_rows, height_of, row_at}
use Rattle.pipe_frame.specs.Frame.{Table, column_of, columns_from, columns_of, select_fault, selected}
use Rattle.pipe_schema.specs.Rows.{Row}
use Rattle.pipe_column.specs.Series.{Cells}
use Rattle.pipe_schema.specs.declared.data_type.DataType.{DataType}
use Rattle.pipe_schema.specs.declared.field.Field.{Field}
use Rattle.pipe_frame.proofs.Tables.{map_map}
use Rattle.pipe_expr.specs.Projections.{field_named}
use Rattle.pipe_ops.proofs.NamedFields.{selected_by}
use Rattle.pipe_rows.specs.Encoded.{Encoded, equality_encoded, equality_rows}
use Rattle.pipe_rows.specs.Encodings.{AreTypedRows}
use Rattle.pipe_rows.specs.Equality.{IsRow, dtypes_of}
use Rattle.pipe_recon.specs.Codes.{Code, HasTypedKey, codes_of, dtype_of, encoded_code, encoded_key, key_table, key_types}
use Rattle.pipe_recon.specs.Reconciliation.{key_cells}
use Rattle.pipe_recon.specs.declared.recon_spec.ReconSpec.{ReconSpec}

-- ---- the frame of the key columns

pub key_table_is : (on : List (List ℕ)) (frame made : Table) (columns : List Cells) → made ≡ selected frame on → select_fault frame.schema on ≡ None → length columns ≡ length frame.schema → frame.rows ≡ column_rows columns (length frame.rows) → made ≡ key_table on frame
key_table_is on frame made columns e good wide rows = selected_by on on frame made columns refl e good wide rows

some_name : (fields : List Field) (on : List (List ℕ)) → select_fault fields on ≡ None → 0 < length on
some_name fields [] good = cc
some_name fields (name ∷ on) good = omega arith

pub some_column : (frame keys : Table) (on : List (List ℕ)) (columns : List Cells) → select_fault frame.schema on ≡ None → keys ≡ key_table on frame → length columns ≡ length keys.schema → 0 < length columns
some_column frame keys on columns good same wide =
    let many : length keys.schema ≡ length on = ap (λ (t : Table). length t.schema) same ∙ length-map on (field_named frame.schema) in
    let some : 0 < length on = some_name frame.schema on good in
    omega (arith, wide, many, some)

height_is : (columns : List Cells) (height : ℕ) → 0 < length columns → AllOfHeight height columns → height_of columns ≡ height
height_is [] height some even = absurd (omega (arith, some))
height_is (column ∷ columns) height some even = even 0 column (omega arith)

pub columns_even : (columns : List Cells) (height : ℕ) → 0 < length columns → AllOfHeight height columns → AllOfHeight (height_of columns) columns
columns_even columns height some even = subst (λ (n : ℕ). AllOfHeight n columns) (sym (height_is columns height some even)) even

-- ---- their bytes

rows_are : (keys : Table) (columns : List Cells) → 0 < length columns → keys.rows ≡ column_rows columns (length keys.rows) → AllOfHeight (length keys.rows) columns → column_rows columns (height_of columns) ≡ keys.rows
rows_are keys columns some rows even = ap (column_rows columns) (height_is columns (length keys.rows) some even) ∙ sym rows

pub keys_encoded : (frame keys : Table) (on : List (List ℕ)) (columns : List Cells) (encoded : List Encoded) → encoded ≡ equality_rows columns → keys ≡ key_table on frame → 0 < length columns → keys.rows ≡ column_rows columns (length keys.rows) → AllOfHeight (length keys.rows) columns → encoded ≡ map (encoded_key frame.schema on) frame.rows
keys_encoded frame keys on columns encoded e same some rows even =
    e ∙ ap (map equality_encoded) (rows_are keys columns some rows even ∙ ap (λ (t : Table). t.rows) same)
    ∙ map_map equality_encoded (key_cells frame.schema on) frame.rows

-- ---- their types

types_from : (i : ℕ) (fields : List Field) (rows : List Row) → dtypes_of (columns_from i fields rows) ≡ map dtype_of fields
types_from i [] rows = refl
types_from i (field ∷ fields) rows = ap (λ ts. field.dtype ∷ ts) (types_from (i + 1) fields rows)

pub keys_typed : (frame keys : Table) (on : List (List ℕ)) (columns : List Cells) → AreTypedRows columns (height_of columns) → columns ≡ columns_of keys → keys ≡ key_table on frame → 0 < length columns → keys.rows ≡ column_rows columns (length keys.rows) → AllOfHeight (length keys.rows) columns → All (HasTypedKey frame.schema on) frame.rows
keys_typed frame keys on columns typed are same some rows even = λ k d lt.
    let high : length keys.rows ≡ length frame.rows = ap (λ (t : Table). length t.rows) same ∙ length-map frame.rows (key_cells frame.schema on) in
    let below : k < height_of columns = omega (arith, lt, high, height_is columns (length keys.rows) some even) in
    let types : dtypes_of columns ≡ key_types frame.schema on = ap dtypes_of are ∙ types_from 0 keys.schema keys.rows ∙ ap (λ (t : Table). map dtype_of t.schema) same in
    let whole : column_rows columns (height_of columns) ≡ map (key_cells frame.schema on) frame.rows = rows_are keys columns some rows even ∙ ap (λ (t : Table). t.rows) same in
    let row : row_at columns k ≡ key_cells frame.schema on (slice_index_or frame.rows k d) =
    sym (get_or-map-range_with_len (row_at columns) 0 (height_of columns) k k (key_cells frame.schema on d) below (omega arith))
    ∙ ap (λ (l : List Row). slice_index_or l k (key_cells frame.schema on d)) whole
    ∙ get_or-map (key_cells frame.schema on) frame.rows k d (key_cells frame.schema on d) lt in
    subst (λ (r : Row). IsRow (key_types frame.schema on) r) row (subst (λ (ts : List DataType). IsRow ts (row_at columns k)) types (typed k below))

-- ---- codes

pub codes_made : (frame : Table) (spec : ReconSpec) (on : List (List ℕ)) (keys : List Encoded) (codes : List Code) → on ≡ spec.on → keys ≡ map (encoded_key frame.schema on) frame.rows → codes ≡ map (encoded_code spec.join_nulls) keys → codes ≡ codes_of frame.schema spec frame.rows
codes_made frame spec on keys codes same e k =
    k ∙ ap (map (encoded_code spec.join_nulls)) (e ∙ ap (λ (names : List (List ℕ)). map (encoded_key frame.schema names) frame.rows) same)
    ∙ map_map (encoded_code spec.join_nulls) (encoded_key frame.schema spec.on) frame.rows
