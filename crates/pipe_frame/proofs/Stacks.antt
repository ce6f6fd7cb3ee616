-- Chunks of one schema as one frame, column by column.
use Rattle.std.proofs.Common.{◌≡◌, ℕ, zero, suc, ◌+◌, ◌<◌, List, [], ◌∷◌, ◌++◌, Some, length, map, get_or, set, take, drop, refl, ap, sym, subst, ◌∙◌, arith}
use Rattle.std.specs.Prelude.{All, Result, Ok, IfOk}
use Rattle.std.specs.declared.alloc.AllocError.{AllocError}
use Rattle.std.specs.List.{slice_get, flat_map}
use Rattle.std.proofs.lemmas.List.{length-map, get_or-map, map-append, ext_get_or, append-nil, append_assoc, drop-set-lt, drop-drop, get_or-drop, length-set}
use Rattle.std.proofs.lemmas.List.Concat.{flat_map-append, flat_map-cons}
use Rattle.std.proofs.lemmas.List.FromFn.{get_or-map-range_with_len}
use Rattle.std.proofs.lemmas.Option.{slice_get-get_or, get_or_from_slice_get, slice_get_within}
use Rattle.std.proofs.Math.Seq.{take-suc}
use Rattle.pipe_frame.specs.Chunks.{chunk_rows, HasFieldAt, HasSchema}
use Rattle.pipe_schema.specs.Rows.{Row, HasWidth}
use Rattle.pipe_column.specs.Series.{Cells}
use Rattle.pipe_column.specs.Columns.{stacked_column, field_of, cell_in, row_at, column_rows, AllOfHeight}
use Rattle.pipe_frame.specs.Frame.{Table, table_of, cell_of_row, column_of, columns_from, columns_of}
use Rattle.pipe_frame.specs.declared.chunk.DataChunk.{DataChunk}
use Rattle.pipe_schema.specs.declared.data_type.DataType.TheVariants as type
use Rattle.pipe_schema.specs.declared.field.Field.{Field}
use Rattle.pipe_schema.specs.declared.any_value.AnyValue.TheVariants as cell
use Rattle.pipe_frame.proofs.Tables.{length-column_rows, get_or-column_rows}

-- ---- the columns of a frame

pub length-columns_from : (i : ℕ) (fields : List Field) (rows : List Row) → length (columns_from i fields rows) ≡ length fields
length-columns_from i [] rows = refl
length-columns_from i (field ∷ fields) rows = ap suc (length-columns_from (i + 1) fields rows)

columns_from-at : (i k : ℕ) (fields : List Field) (rows : List Row) (d : Cells) (e : Field) → k < length fields → get_or (columns_from i fields rows) k d ≡ column_of rows (i + k) (get_or fields k e)
columns_from-at i k [] rows d e lt = absurd (omega arith)
columns_from-at i zero (field ∷ fields) rows d e lt = let at : i ≡ i + 0 = omega arith in ap (λ n. column_of rows n field) at
columns_from-at i (suc k) (field ∷ fields) rows d e lt =
    let at : i + 1 + k ≡ i + suc k = omega arith in
    columns_from-at (i + 1) k fields rows d e (omega arith) ∙ ap (λ n. column_of rows n (get_or fields k e)) at

-- the column at a place
pub get_or-columns_of : (table : Table) (k : ℕ) (d : Cells) (e : Field) → k < length table.schema → get_or (columns_of table) k d ≡ column_of table.rows k (get_or table.schema k e)
get_or-columns_of table k d e lt = let at : 0 + k ≡ k = omega arith in columns_from-at 0 k table.schema table.rows d e lt ∙ ap (λ n. column_of table.rows n (get_or table.schema k e)) at

pub slice_get-columns_of : (schema : List Field) (rows : List Row) (k : ℕ) (field : Field) → k < length schema → slice_get schema k ≡ Some field → slice_get (columns_from 0 schema rows) k ≡ Some (column_of rows k field)
slice_get-columns_of schema rows k field lt is =
    let d : Cells = column_of rows k field in
    slice_get-get_or (columns_from 0 schema rows) k d (rw length-columns_from lt)
    ∙ ap Some (get_or-columns_of (record { schema = schema; rows = rows }) k d field lt ∙ ap (column_of rows k) (get_or_from_slice_get schema k field field is))

fields-columns_from : (i : ℕ) (fields : List Field) (rows : List Row) → map field_of (columns_from i fields rows) ≡ fields
fields-columns_from i [] rows = refl
fields-columns_from i (field ∷ fields) rows = ap (λ l. field ∷ l) (fields-columns_from (i + 1) fields rows)

even-columns_of : (table : Table) → AllOfHeight (length table.rows) (columns_of table)
even-columns_of table k d lt =
    let inside : k < length table.schema = rw (← length-columns_from 0 table.schema table.rows) lt in
    let e : Field = field_of d in
    rw (get_or-columns_of table k d e inside) (length-map table.rows (cell_of_row k))

-- the row at a place is that of the columns
row_at-columns_of : (table : Table) (i : ℕ) → All (HasWidth (length table.schema)) table.rows → i < length table.rows → row_at (columns_of table) i ≡ get_or table.rows i []
row_at-columns_of table i whole lt =
    let wide : length (get_or table.rows i []) ≡ length table.schema = whole i [] lt in
    let many : length (columns_of table) ≡ length table.schema = length-columns_from 0 table.schema table.rows in
    let all : length (row_at (columns_of table) i) ≡ length table.schema = length-map (columns_of table) (cell_in i) ∙ many in
    ext_get_or cell.Null (row_at (columns_of table) i) (get_or table.rows i []) (all ∙ sym wide)
    (λ k below.
    let inside : k < length table.schema = omega (arith, all) in
    let f : Field = record { name = []; dtype = type.Boolean } in
    let d : Cells = column_of table.rows k f in
    get_or-map (cell_in i) (columns_of table) k d cell.Null (omega (arith, many, all))
    ∙ ap (cell_in i) (get_or-columns_of table k d f inside)
    ∙ get_or-map (cell_of_row k) table.rows i [] cell.Null lt)

-- columns of a frame whose rows are whole make the frame
table_of-columns_of : (table : Table) → All (HasWidth (length table.schema)) table.rows → table_of (columns_of table) (length table.rows) ≡ table
table_of-columns_of table whole =
    let rows : column_rows (columns_of table) (length table.rows) ≡ table.rows =
    ext_get_or [] (column_rows (columns_of table) (length table.rows)) table.rows (length-column_rows (columns_of table) (length table.rows))
    (λ i lt. let below : i < length table.rows = (let n = length-column_rows (columns_of table) (length table.rows) in omega (arith, n)) in get_or-column_rows (columns_of table) (length table.rows) i below ∙ row_at-columns_of table i whole below) in
    ap (λ s. record { schema = s; rows = column_rows (columns_of table) (length table.rows) }) (fields-columns_from 0 table.schema table.rows)
    ∙ ap (λ r. record { schema = table.schema; rows = r }) rows

-- what a frame of such columns asks and gives
module _ (table : Table) (columns : List Cells) (height : ℕ) (is : columns ≡ columns_of table) (long : height ≡ length table.rows) where
  pub made_fields : map field_of columns ≡ table.schema
  made_fields = ap (map field_of) is ∙ fields-columns_from 0 table.schema table.rows

  pub made_even : AllOfHeight height columns
  made_even = rw (is, long) (even-columns_of table)

  pub made_table : All (HasWidth (length table.schema)) table.rows → table_of columns height ≡ table
  made_table whole = rw (is, long) (table_of-columns_of table whole)

-- ---- the rows of a frame are whole

pub whole_rows : (columns : List Cells) (height : ℕ) (table : Table) → table_of columns height ≡ table → All (HasWidth (length table.schema)) table.rows
whole_rows columns height table v =
    let Claim : Table → Type 0 = λ t. All (HasWidth (length t.schema)) t.rows in
    subst Claim v (λ i d lt.
    let below : i < height = omega (arith, length-column_rows columns height) in
    rw (get_or-map-range_with_len (row_at columns) 0 height i i d below (omega arith), length-map columns (cell_in i)) (sym (length-map columns field_of)))

-- ---- cells of one column, chunk by chunk

-- a chunk's cells behind others
pub column_of-append : (rows more : List Row) (k : ℕ) (field other : Field) → stacked_column (column_of rows k field) (column_of more k other) ≡ column_of (rows ++ more) k field
column_of-append rows more k field other = ap (λ l. record { name = field.name; dtype = field.dtype; cells = l }) (sym (map-append (cell_of_row k) rows more))

-- the column of a chunk is of its field
pub column_at-field : (table : Table) (k : ℕ) (field : Field) (d : Cells) → slice_get table.schema k ≡ Some field → get_or (columns_of table) k d ≡ column_of table.rows k field
column_at-field table k field d is = get_or-columns_of table k d field (slice_get_within table.schema k field is) ∙ ap (column_of table.rows k) (get_or_from_slice_get table.schema k field field is)

pub length-columns_of : (table : Table) → length (columns_of table) ≡ length table.schema
length-columns_of table = length-columns_from 0 table.schema table.rows

-- where all chunks have a schema they have its fields
pub has_fields : (schema : List Field) (chunks : List DataChunk) (k : ℕ) (field : Field) → All (HasSchema schema) chunks → slice_get schema k ≡ Some field → All (HasFieldAt k field) chunks
has_fields schema chunks k field h is i d lt = rw (h i d lt) is

-- one chunk more
pub cells_more : (before column now other : Cells) (k i : ℕ) (chunks : List DataChunk) (chunk : DataChunk) → All (HasFieldAt k (field_of before)) chunks → i < length chunks → chunk ≡ get_or chunks i chunk → other ≡ get_or (columns_of chunk.frame) k other → column ≡ record before { cells = before.cells ++ map (cell_of_row k) (flat_map chunk_rows (take i chunks)) } → now ≡ stacked_column column other → now ≡ record before { cells = before.cells ++ map (cell_of_row k) (flat_map chunk_rows (take (i + 1) chunks)) }
cells_more before column now other k i chunks chunk h lt at o c n =
    let field : slice_get chunk.frame.schema k ≡ Some (field_of before) = rw at (h i chunk lt) in
    let cells : other.cells ≡ map (cell_of_row k) (chunk_rows chunk) = ap (λ (q : Cells). q.cells) (o ∙ column_at-field chunk.frame k (field_of before) other field) in
    let next : i + 1 ≡ suc i = omega arith in
    let one : take (i + 1) chunks ≡ take i chunks ++ chunk ∷ [] = ap (λ m. take m chunks) next ∙ take-suc chunks i chunk lt ∙ ap (λ x. take i chunks ++ x ∷ []) (sym at) in
    let rows : flat_map chunk_rows (take (i + 1) chunks) ≡ flat_map chunk_rows (take i chunks) ++ chunk_rows chunk = ap (flat_map chunk_rows) one ∙ flat_map-append chunk_rows (take i chunks) (chunk ∷ []) ∙ ap (λ l. flat_map chunk_rows (take i chunks) ++ l) (flat_map-cons chunk_rows chunk [] ∙ append-nil (chunk_rows chunk)) in
    let all : (before.cells ++ map (cell_of_row k) (flat_map chunk_rows (take i chunks))) ++ other.cells ≡ before.cells ++ map (cell_of_row k) (flat_map chunk_rows (take (i + 1) chunks)) =
    append_assoc before.cells (map (cell_of_row k) (flat_map chunk_rows (take i chunks))) other.cells
    ∙ ap (λ l. before.cells ++ l) (ap (λ l. map (cell_of_row k) (flat_map chunk_rows (take i chunks)) ++ l) cells ∙ sym (map-append (cell_of_row k) (flat_map chunk_rows (take i chunks)) (chunk_rows chunk)) ∙ ap (map (cell_of_row k)) (sym rows)) in
    n ∙ ap (λ q. stacked_column q other) c ∙ ap (λ l. record before { cells = l }) all

-- a column of a chunk has the type of its field
pub same_dtype : (field : Field) (column other : Cells) (k i : ℕ) (chunks : List DataChunk) (chunk : DataChunk) → All (HasFieldAt k field) chunks → i < length chunks → chunk ≡ get_or chunks i chunk → other ≡ get_or (columns_of chunk.frame) k other → column.dtype ≡ field.dtype → column.dtype ≡ other.dtype
same_dtype field column other k i chunks chunk h lt at o e =
    let is : slice_get chunk.frame.schema k ≡ Some field = rw at (h i chunk lt) in
    e ∙ sym (ap (λ (q : Cells). q.dtype) (o ∙ column_at-field chunk.frame k field other is))

pub inside_chunk : (field : Field) (k i : ℕ) (chunks : List DataChunk) (chunk : DataChunk) → All (HasFieldAt k field) chunks → i < length chunks → chunk ≡ get_or chunks i chunk → k < length chunk.frame.schema
inside_chunk field k i chunks chunk h lt at =
    let is : slice_get chunk.frame.schema k ≡ Some field = rw at (h i chunk lt) in
    slice_get_within chunk.frame.schema k field is

-- all cells of a column that had none
pub column_filled : (field : Field) (name : List ℕ) (column now : Cells) (k : ℕ) (rows : List Row) → name ≡ field.name → column ≡ record { name = name; dtype = field.dtype; cells = [] } → now ≡ record column { cells = column.cells ++ map (cell_of_row k) rows } → now ≡ column_of rows k field
column_filled field name column now k rows e c n =
    n ∙ ap (λ (q : Cells). record q { cells = q.cells ++ map (cell_of_row k) rows }) (c ∙ ap (λ m. record { name = m; dtype = field.dtype; cells = [] }) e)

-- ---- lists that grow

-- one more column
pub take_one_more : {A : Type 0} (all made now : List A) (k : ℕ) (x : A) → made ≡ take k all → slice_get all k ≡ Some x → now ≡ made ++ x ∷ [] → now ≡ take (k + 1) all
take_one_more all made now k x e is n =
    let next : suc k ≡ k + 1 = omega arith in
    let lt : k < length all = slice_get_within all k x is in
    n ∙ ap (λ l. l ++ x ∷ []) e ∙ ap (λ y. take k all ++ y ∷ []) (sym (get_or_from_slice_get all k x x is)) ∙ sym (take-suc all k x lt) ∙ ap (λ m. take m all) next

-- one slot more is emptied
pub record Emptied {A : Type 0} (k : ℕ) (columns : List A) (slots first : List (Result A AllocError)) : Type 0 where
  pub made : map Ok columns ≡ take k first
  pub left : drop k slots ≡ drop k first
  pub count : length slots ≡ length first

pub emptied_more : {A : Type 0} (k : ℕ) (columns now : List A) (slots first : List (Result A AllocError)) (x : A) (y : Result A AllocError) → Emptied k columns slots first → k < length first → Ok x ≡ get_or slots k (Ok x) → now ≡ columns ++ x ∷ [] → Emptied (k + 1) now (set slots k y) first
emptied_more k columns now slots first x y s lt at n =
    let next : suc k ≡ k + 1 = omega arith in
    let none : k + 0 ≡ k = omega arith in
    let here : get_or first k (Ok x) ≡ Ok x = ap (λ m. get_or first m (Ok x)) (sym none) ∙ sym (get_or-drop k first 0 (Ok x)) ∙ ap (λ l. get_or l 0 (Ok x)) (sym s.left) ∙ get_or-drop k slots 0 (Ok x) ∙ ap (λ m. get_or slots m (Ok x)) none ∙ sym at in
    record {
      made = ap (map Ok) n ∙ map-append Ok columns (x ∷ []) ∙ ap (λ l. l ++ Ok x ∷ []) s.made ∙ ap (λ q. take k first ++ q ∷ []) (sym here) ∙ sym (take-suc first k (Ok x) lt) ∙ ap (λ m. take m first) next;
      left = drop-set-lt (k + 1) slots k y (omega arith) ∙ sym (drop-drop 1 k slots) ∙ ap (drop 1) s.left ∙ drop-drop 1 k first;
      count = length-set slots k y ∙ s.count;
    }

-- ---- slots

-- what one list gives at each place, and another as its successes
pub filled_all : {A : Type 0} (made wanted : List A) (slots : List (Result A AllocError)) → map Ok made ≡ slots → length slots ≡ length wanted → ((k : ℕ) (d : Result A AllocError) → k < length slots → IfOk (get_or slots k d) (λ x. slice_get wanted k ≡ Some x)) → made ≡ wanted
filled_all [] [] slots e n h = refl
filled_all [] (_ ∷ _) slots e n h = absurd (omega (arith, ap length e))
filled_all (_ ∷ _) [] slots e n h = absurd (omega (arith, ap length e))
filled_all {A} (x ∷ made) (y ∷ wanted) slots e n h =
    let Claim : List (Result A AllocError) → Type 0 = λ l. (length l ≡ suc (length wanted)) → ((k : ℕ) (d : Result A AllocError) → k < length l → IfOk (get_or l k d) (λ z. slice_get (y ∷ wanted) k ≡ Some z)) → x ∷ made ≡ y ∷ wanted in
    subst Claim e (λ m g.
    let first : Some y ≡ Some x = g 0 (Ok x) (omega arith) in
    let rest : made ≡ wanted = filled_all made wanted (map Ok made) refl (omega arith) (λ k d lt. g (suc k) d (omega arith)) in
    cc) n h
