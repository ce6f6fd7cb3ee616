-- What is spelled so has the shape.
use Rattle.std.proofs.Common.{◌≡◌, ◌<◌, ◌^◌, ℕ, ℤ, pos, negsuc, map, List, [], ◌∷◌, Bool, true, false, not, ◌&&◌, is_some, length, Option, Some, None, refl, inl, inr, ap, ap₂, sym, ◌∙◌, arith, rules, true≢false, ◌+◌, cond}
use Rattle.std.proofs.lemmas.Bool.Decides.{nat_tests, Decides-eqb}
use Rattle.std.specs.List.{AllByRecursion}
use Rattle.std.specs.Prelude.{FitsSigned}
use Rattle.std.specs.Int.{w32, w64, w128}
use Rattle.std.specs.Str.{bytes_eq}
use Rattle.hex.specs.Hex.{encode_lower, IsBytes}
use Rattle.serde_json.specs.Data.{Data, boolean, number, unsigned, string}
use Rattle.serde_json.specs.Find.{of_integer}
use Rattle.pipe_schema.specs.declared.any_value.AnyValue.{AnyValue}
use Rattle.pipe_schema.specs.declared.any_value.AnyValue.TheVariants as cell
use Rattle.pipe_schema.specs.declared.data_type.DataType.{DataType}
use Rattle.pipe_schema.specs.declared.data_type.DataType.TheVariants as dtype
use Rattle.pipe_schema.specs.declared.error.FrameError.{FrameError}
use Rattle.pipe_column.specs.Series.{Cells}
use Rattle.pipe_schema.specs.Schema.{IsSchema, names_of, names_fault}
use Rattle.pipe_schema.specs.declared.field.Field.{Field}
use Rattle.pipe_schema.specs.Rows.{Row}
use Rattle.std.proofs.lemmas.List.{length-map}
use Rattle.pipe_column.specs.Columns.{field_of, other_height}
use Rattle.pipe_frame.specs.Frame.{Table, columns_from, cell_of_row, columns_of, differing, else_fault, frame_fault}
use Rattle.pipe_expr.specs.Formula.{Formula, Column, Literal, Add, Sub, Mul, Eq, NotEq, Lt, LtEq, Gt, GtEq, And, Or, Not, IsNull, IsNotNull, NamedFormula}
use Rattle.pipe_expr.specs.declared.join_words.JoinType.{JoinType}
use Rattle.pipe_expr.specs.declared.join_words.JoinType.TheVariants as how
use Rattle.pipe_expr.specs.declared.join_words.JoinCoalesce.{JoinCoalesce}
use Rattle.pipe_expr.specs.declared.join_words.JoinCoalesce.TheVariants as coalesce
use Rattle.pipe_expr.specs.declared.join_words.RenamePair.{RenamePair}
use Rattle.pipe_expr.specs.declared.join_words.FunctionIR.TheVariants as function
use Rattle.pipe_plan.specs.Node.{Node}
use Rattle.pipe_plan.specs.Node as node
use Rattle.pipe_plan.specs.declared.ir.RowsHint.{RowsHint}
use Rattle.pipe_plan.specs.declared.ir.PlanSlice.{PlanSlice}
use Rattle.pipe_job.specs.Spelling.{maybe, MaybeFits, list, whole, decimal_spelling, type_name, cell_spelling, FitsType}
use Rattle.pipe_job.specs.FormulaSpelling.{formula_spelling, FormulaFits, named_spelling, NamedFits}
use Rattle.pipe_job.specs.NodeSpelling.{how_spelling, coalesce_spelling, hint_spelling, HintFits, pair_spelling, slice_spelling, SliceFits, node_spelling, NodeFits, Fits32}
use Rattle.pipe_job.specs.FrameSpelling.{column_spelling, ColumnFits, frame_spelling, FrameFits}
use Rattle.pipe_job.specs.JobSpelling.{Task, task_spelling, PartsFit, Spells}
use Rattle.pipe_job.specs.Version.{VersionFits}
use Rattle.pipe_job.specs.Shape.{is_how, is_coalesce, is_hint, is_pair, is_unsigned, is_signed, is_hex, is_decimal, is_cell, is_maybe, is_list, is_text, is_truth, is_expr, is_named, is_slice, is_column, is_table, is_frame, type_named}
use Rattle.pipe_job.specs.Kinds.{is_node, is_version, is_job}
use Rattle.pipe_job.proofs.Decimals.{decimal_again}
use Rattle.pipe_job.proofs.Hexes.{hex_text}
use Rattle.pipe_job.proofs.FrameTests.{fault_outlined}

-- ---- numbers and bytes

pub unsigned_again : (bits n : ℕ) → n < 2 ^ bits → is_unsigned bits (number (unsigned n)) ≡ true
unsigned_again bits n h = grind (arith, nat_tests)

pub int64_again : (z : ℤ) → FitsSigned w64 z → is_signed 63 (number (of_integer z)) ≡ true
int64_again (pos n) h = grind (arith, nat_tests)
int64_again (negsuc n) h = grind (arith, nat_tests)

pub int32_again : (z : ℤ) → FitsSigned w32 z → is_signed 31 (number (of_integer z)) ≡ true
int32_again (pos n) h = grind (arith, nat_tests)
int32_again (negsuc n) h = grind (arith, nat_tests)

hex_again : (b : List ℕ) → IsBytes b → is_hex (string (encode_lower b)) ≡ true
hex_again b h = hex_text b h

-- ---- lists

pub list_again : {A : Type 0} (spell : A → Data) (Fits : A → Type 0) (shape : Data → Bool) → ((x : A) → Fits x → shape (spell x) ≡ true)
    → (xs : List A) → AllByRecursion Fits xs → is_list shape (list spell xs) ≡ true
list_again spell Fits shape one [] h = refl
list_again spell Fits shape one (x ∷ xs) h = ap₂ (λ (a b : Bool). a && b) (one x h.0) (list_again spell Fits shape one xs h.1)

numbers_again : (xs : List ℕ) → AllByRecursion Fits32 xs → is_list (is_unsigned 32) (list whole xs) ≡ true
numbers_again xs h = list_again whole Fits32 (is_unsigned 32) (unsigned_again 32) xs h

pub texts_again : (xs : List (List ℕ)) → is_list is_text (list string xs) ≡ true
texts_again [] = refl
texts_again (x ∷ xs) = texts_again xs

truths_again : (xs : List Bool) → is_list is_truth (list boolean xs) ≡ true
truths_again [] = refl
truths_again (x ∷ xs) = truths_again xs

pairs_again : (xs : List RenamePair) → is_list is_pair (list pair_spelling xs) ≡ true
pairs_again [] = refl
pairs_again (x ∷ xs) = pairs_again xs

-- ---- cells and expressions

pub type_again : (t : DataType) → type_named (type_name t) ≡ Some t
type_again dtype.Int32 = refl
type_again dtype.Int64 = refl
type_again dtype.UInt32 = refl
type_again dtype.UInt64 = refl
type_again dtype.Boolean = refl
type_again dtype.String = refl
type_again dtype.Binary = refl
type_again dtype.Int128 = refl

null_again : (t : DataType) → is_cell t (cell_spelling cell.Null) ≡ true
null_again t = refl

pub cell_again : (t : DataType) (c : AnyValue) → FitsType t c → is_cell t (cell_spelling c) ≡ true
cell_again t cell.Null h = null_again t
cell_again t (cell.Int32 z) h = ap (λ (u : DataType). is_cell u (cell_spelling (cell.Int32 z))) h.0 ∙ int32_again z h.1
cell_again t (cell.Int64 z) h = ap (λ (u : DataType). is_cell u (cell_spelling (cell.Int64 z))) h.0 ∙ int64_again z h.1
cell_again t (cell.UInt32 n) h = ap (λ (u : DataType). is_cell u (cell_spelling (cell.UInt32 n))) h.0 ∙ unsigned_again 32 n h.1
cell_again t (cell.UInt64 n) h = ap (λ (u : DataType). is_cell u (cell_spelling (cell.UInt64 n))) h.0 ∙ unsigned_again 64 n h.1
cell_again t (cell.Boolean b) h = ap (λ (u : DataType). is_cell u (cell_spelling (cell.Boolean b))) h
cell_again t (cell.String s) h = ap (λ (u : DataType). is_cell u (cell_spelling (cell.String s))) h
cell_again t (cell.Binary b) h = ap (λ (u : DataType). is_cell u (cell_spelling (cell.Binary b))) h.0 ∙ hex_again b h.1
cell_again t (cell.Int128 z) h = ap (λ (u : DataType). is_cell u (cell_spelling (cell.Int128 z))) h.0 ∙ decimal_again z h.1

pub formula_again : (f : Formula) → FormulaFits f → is_expr (formula_spelling f) ≡ true
formula_again (Column name) h = refl
formula_again (Literal t c) h = rw type_again (rw (cell_again t c h) refl)
formula_again (Add l r) h = rw (formula_again l h.0, formula_again r h.1)
formula_again (Sub l r) h = rw (formula_again l h.0, formula_again r h.1)
formula_again (Mul l r) h = rw (formula_again l h.0, formula_again r h.1)
formula_again (Eq l r) h = rw (formula_again l h.0, formula_again r h.1)
formula_again (NotEq l r) h = rw (formula_again l h.0, formula_again r h.1)
formula_again (Lt l r) h = rw (formula_again l h.0, formula_again r h.1)
formula_again (LtEq l r) h = rw (formula_again l h.0, formula_again r h.1)
formula_again (Gt l r) h = rw (formula_again l h.0, formula_again r h.1)
formula_again (GtEq l r) h = rw (formula_again l h.0, formula_again r h.1)
formula_again (And l r) h = rw (formula_again l h.0, formula_again r h.1)
formula_again (Or l r) h = rw (formula_again l h.0, formula_again r h.1)
formula_again (Not f) h = formula_again f h
formula_again (IsNull f) h = formula_again f h
formula_again (IsNotNull f) h = formula_again f h

pub named_again : (e : NamedFormula) → NamedFits e → is_named (named_spelling e) ≡ true
named_again e h = rw (formula_again e.formula h)

formulas_again : (es : List Formula) → AllByRecursion FormulaFits es → is_list is_expr (list formula_spelling es) ≡ true
formulas_again es h = list_again formula_spelling FormulaFits is_expr formula_again es h

nameds_again : (es : List NamedFormula) → AllByRecursion NamedFits es → is_list is_named (list named_spelling es) ≡ true
nameds_again es h = list_again named_spelling NamedFits is_named named_again es h

-- ---- nodes

pub slice_again : (s : PlanSlice) → SliceFits s → is_slice (slice_spelling s) ≡ true
slice_again s h = rw (int64_again s.offset h.0, unsigned_again 64 s.len h.1)

maybe_slice_again : (s : Option PlanSlice) → MaybeFits SliceFits s → is_maybe is_slice (maybe slice_spelling s) ≡ true
maybe_slice_again None h = refl
maybe_slice_again (Some s) h = slice_again s h

pub how_again : (h : JoinType) → is_how (how_spelling h) ≡ true
how_again how.Inner = refl
how_again how.Left = refl
how_again how.Full = refl
how_again how.Cross = refl
how_again how.Semi = refl
how_again how.Anti = refl

pub coalesce_again : (c : JoinCoalesce) → is_coalesce (coalesce_spelling c) ≡ true
coalesce_again coalesce.JoinSpecific = refl
coalesce_again coalesce.CoalesceColumns = refl
coalesce_again coalesce.KeepColumns = refl

pub known_again : (n : Option ℕ) → MaybeFits (λ m. m < 2 ^ 64) n → is_maybe (is_unsigned 64) (maybe whole n) ≡ true
known_again None h = refl
known_again (Some n) h = unsigned_again 64 n h

pub hint_again : (h : RowsHint) → HintFits h → is_hint (hint_spelling h) ≡ true
hint_again h fits = rw (known_again h.known fits.0, unsigned_again 64 h.estimate fits.1)

pub node_again : (n : Node) → NodeFits n → is_node (node_spelling n) ≡ true
node_again (node.DataFrameScan frame None) h = rw (unsigned_again 32 frame h)
node_again (node.DataFrameScan frame (Some cs)) h = rw (texts_again cs, unsigned_again 32 frame h)
node_again (node.Filter input e) h = rw (unsigned_again 32 input h.0, formula_again e h.1)
node_again (node.SimpleProjection input cs) h = rw (texts_again cs, unsigned_again 32 input h)
node_again (node.Select input es) h = rw (nameds_again es h.1, unsigned_again 32 input h.0)
node_again (node.HStack input es) h = rw (nameds_again es h.1, unsigned_again 32 input h.0)
node_again (node.MapFunction input (function.Unpivot on index variable value)) h = rw (texts_again index, unsigned_again 32 input h, texts_again on)
node_again (node.MapFunction input (function.Rename pairs)) h = rw (unsigned_again 32 input h, pairs_again pairs)
node_again (node.Union inputs) h = rw (numbers_again inputs h)
node_again (node.Join left right left_on right_on o) h =
    rw (
      coalesce_again o.coalesce,
      how_again o.how,
      unsigned_again 32 left h.0,
      formulas_again left_on h.2,
      unsigned_again 32 right h.1,
      formulas_again right_on h.3,
      hint_again o.rows_left h.4,
      hint_again o.rows_right h.5,
    )
node_again (node.Sort input by o) h = rw (texts_again by, truths_again o.descending, unsigned_again 32 input h.0, truths_again o.nulls_last, maybe_slice_again o.slice h.1)

-- ---- frames and jobs

pub column_again : (c : Cells) → ColumnFits c → is_column (column_spelling c) ≡ true
column_again c h = rw (type_again c.dtype, list_again cell_spelling (FitsType c.dtype) (is_cell c.dtype) (cell_again c.dtype) c.cells h)

-- the columns of a frame are of one height
even_rows : (height i : ℕ) (fields : List Field) (rows : List Row) → length rows ≡ height → other_height height (columns_from i fields rows) ≡ None
even_rows height i [] rows e = refl
even_rows height i (f ∷ fields) rows e =
    let here : length (map (cell_of_row i) rows) ≡ height = length-map rows (cell_of_row i) ∙ e in
    ap (λ (b : Bool). cond b (other_height height (columns_from (i + 1) fields rows)) (Some (length (map (cell_of_row i) rows)))) ((Decides-eqb (length (map (cell_of_row i) rows)) height).1 here)
    ∙ even_rows height (i + 1) fields rows e

fields_back : (i : ℕ) (fields : List Field) (rows : List Row) → map field_of (columns_from i fields rows) ≡ fields
fields_back i [] rows = refl
fields_back i (f ∷ fields) rows = ap (λ (l : List Field). f ∷ l) (fields_back (i + 1) fields rows)

-- a frame's columns make a frame
no_fault : (schema : List Field) (rows : List Row) → IsSchema schema → frame_fault (columns_from 0 schema rows) ≡ None
no_fault [] rows good = cc
no_fault (f ∷ fields) rows good =
    let names : names_fault (names_of (map field_of (columns_from 0 (f ∷ fields) rows))) ≡ None = ap (λ (l : List Field). names_fault (names_of l)) (fields_back 0 (f ∷ fields) rows) ∙ good in
    let high : length rows ≡ length (map (cell_of_row 0) rows) = sym (length-map rows (cell_of_row 0)) in
    ap₂ else_fault names (ap (differing (length (map (cell_of_row 0) rows))) (even_rows (length (map (cell_of_row 0) rows)) 0 (f ∷ fields) rows high))

table_again : (f : Table) → FrameFits f → is_table (list column_spelling (columns_of f)) ≡ true
table_again f h = ap (λ (o : Option FrameError). not (is_some o)) (fault_outlined (columns_of f) ∙ no_fault f.schema f.rows h.schema)

pub frame_again : (f : Table) → FrameFits f → is_frame (frame_spelling f) ≡ true
frame_again f h = rw (list_again column_spelling ColumnFits is_column column_again (columns_of f) h.cells, table_again f h)

pub version_again : (n : ℕ) → VersionFits n → is_version (whole n) ≡ true
version_again n (inl e) = ap (λ (m : ℕ). is_version (whole m)) e
version_again n (inr e) = ap (λ (m : ℕ). is_version (whole m)) e

task_again : (t : Task) → PartsFit t → is_job (task_spelling t) ≡ true
task_again t h = rw (
  unsigned_again 32 t.config.chunk_rows h.chunk_rows,
  list_again frame_spelling FrameFits is_frame frame_again t.plan.frames h.frames,
  list_again node_spelling NodeFits is_node node_again t.plan.nodes h.nodes,
  unsigned_again 32 t.root h.root,
  unsigned_again 32 t.config.row_limit h.row_limit,
  version_again t.version h.version,
  unsigned_again 32 t.config.workers h.workers,
)

-- what has not the shape of a job is not spelled by one
pub no_task : (v : Data) → is_job v ≡ false → (t : Task) → Spells v t → ⊥
no_task v none t s = true≢false (sym (ap is_job s.spelled ∙ task_again t s.fits.parts) ∙ none)
