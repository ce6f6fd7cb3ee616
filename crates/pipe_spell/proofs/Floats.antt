-- What spells a job has no float.
use Rattle.std.proofs.Common.{◌≡◌, ℕ, ℤ, pos, negsuc, List, [], ◌∷◌, map, Bool, false, ◌||◌, Option, Some, None, refl, ap₂}
use Rattle.serde_json.specs.Data.{Data, boolean, number, string}
use Rattle.serde_json.specs.Find.{of_integer}
use Rattle.serde_json.specs.View.{items_of}
use Rattle.serde_json.specs.Written.{has_float, items_have_float}
use Rattle.pipe_frame.specs.Frame.{Table, columns_of}
use Rattle.pipe_column.specs.Series.{Cells}
use Rattle.pipe_schema.specs.declared.any_value.AnyValue.{AnyValue}
use Rattle.pipe_schema.specs.declared.any_value.AnyValue.TheVariants as cell
use Rattle.pipe_expr.specs.Formula.{Formula, Column, Literal, Add, Sub, Mul, Eq, NotEq, Lt, LtEq, Gt, GtEq, And, Or, Not, IsNull, IsNotNull, NamedFormula}
use Rattle.pipe_expr.specs.declared.join_words.JoinType.{JoinType}
use Rattle.pipe_expr.specs.declared.join_words.JoinType.TheVariants as how
use Rattle.pipe_expr.specs.declared.join_words.JoinCoalesce.{JoinCoalesce}
use Rattle.pipe_expr.specs.declared.join_words.JoinCoalesce.TheVariants as coalesce
use Rattle.pipe_expr.specs.declared.join_words.RenamePair.{RenamePair}
use Rattle.pipe_expr.specs.declared.join_words.FunctionIR.TheVariants as function
use Rattle.pipe_plan.specs.Node.{Node}
use Rattle.pipe_plan.specs.Node as node
use Rattle.pipe_plan.specs.declared.ir.RowsHint.{RowsHint}
use Rattle.pipe_plan.specs.declared.ir.PlanSlice.{PlanSlice}
use Rattle.pipe_job.specs.Spelling.{maybe, list, whole, cell_spelling}
use Rattle.pipe_job.specs.FormulaSpelling.{formula_spelling, named_spelling}
use Rattle.pipe_job.specs.NodeSpelling.{how_spelling, coalesce_spelling, hint_spelling, pair_spelling, slice_spelling, node_spelling}
use Rattle.pipe_job.specs.FrameSpelling.{column_spelling, frame_spelling}
use Rattle.pipe_job.specs.JobSpelling.{Task, task_spelling}

-- ---- lists

items_plain : {A : Type 0} (spell : A → Data) → ((x : A) → has_float (spell x) ≡ false) → (xs : List A) → items_have_float (items_of (map spell xs)) ≡ false
items_plain spell plain [] = refl
items_plain spell plain (x ∷ xs) = ap₂ (λ (a b : Bool). a || b) (plain x) (items_plain spell plain xs)

list_plain : {A : Type 0} (spell : A → Data) → ((x : A) → has_float (spell x) ≡ false) → (xs : List A) → has_float (list spell xs) ≡ false
list_plain spell plain xs = items_plain spell plain xs

texts_plain : (xs : List (List ℕ)) → has_float (list string xs) ≡ false
texts_plain xs = list_plain string (λ x. refl) xs

truths_plain : (xs : List Bool) → has_float (list boolean xs) ≡ false
truths_plain xs = list_plain boolean (λ x. refl) xs

wholes_plain : (xs : List ℕ) → has_float (list whole xs) ≡ false
wholes_plain xs = list_plain whole (λ x. refl) xs

maybe_texts_plain : (xs : Option (List (List ℕ))) → has_float (maybe (list string) xs) ≡ false
maybe_texts_plain None = refl
maybe_texts_plain (Some xs) = texts_plain xs

-- ---- cells and expressions

integer_plain : (z : ℤ) → has_float (number (of_integer z)) ≡ false
integer_plain (pos n) = refl
integer_plain (negsuc n) = refl

cell_plain : (c : AnyValue) → has_float (cell_spelling c) ≡ false
cell_plain cell.Null = refl
cell_plain (cell.Int32 z) = integer_plain z
cell_plain (cell.Int64 z) = integer_plain z
cell_plain (cell.UInt32 n) = refl
cell_plain (cell.UInt64 n) = refl
cell_plain (cell.Boolean b) = refl
cell_plain (cell.String s) = refl
cell_plain (cell.Binary b) = refl
cell_plain (cell.Int128 z) = refl

formula_plain : (f : Formula) → has_float (formula_spelling f) ≡ false
formula_plain (Column name) = refl
formula_plain (Literal t c) = rw (cell_plain c)
formula_plain (Add l r) = rw (formula_plain l, formula_plain r)
formula_plain (Sub l r) = rw (formula_plain l, formula_plain r)
formula_plain (Mul l r) = rw (formula_plain l, formula_plain r)
formula_plain (Eq l r) = rw (formula_plain l, formula_plain r)
formula_plain (NotEq l r) = rw (formula_plain l, formula_plain r)
formula_plain (Lt l r) = rw (formula_plain l, formula_plain r)
formula_plain (LtEq l r) = rw (formula_plain l, formula_plain r)
formula_plain (Gt l r) = rw (formula_plain l, formula_plain r)
formula_plain (GtEq l r) = rw (formula_plain l, formula_plain r)
formula_plain (And l r) = rw (formula_plain l, formula_plain r)
formula_plain (Or l r) = rw (formula_plain l, formula_plain r)
formula_plain (Not f) = rw (formula_plain f)
formula_plain (IsNull f) = rw (formula_plain f)
formula_plain (IsNotNull f) = rw (formula_plain f)

named_plain : (e : NamedFormula) → has_float (named_spelling e) ≡ false
named_plain e = rw (formula_plain e.formula)

formulas_plain : (es : List Formula) → has_float (list formula_spelling es) ≡ false
formulas_plain es = list_plain formula_spelling formula_plain es

nameds_plain : (es : List NamedFormula) → has_float (list named_spelling es) ≡ false
nameds_plain es = list_plain named_spelling named_plain es

pairs_plain : (ps : List RenamePair) → has_float (list pair_spelling ps) ≡ false
pairs_plain ps = list_plain pair_spelling (λ p. refl) ps

-- ---- nodes

how_plain : (h : JoinType) → has_float (how_spelling h) ≡ false
how_plain how.Inner = refl
how_plain how.Left = refl
how_plain how.Full = refl
how_plain how.Cross = refl
how_plain how.Semi = refl
how_plain how.Anti = refl

coalesce_plain : (c : JoinCoalesce) → has_float (coalesce_spelling c) ≡ false
coalesce_plain coalesce.JoinSpecific = refl
coalesce_plain coalesce.CoalesceColumns = refl
coalesce_plain coalesce.KeepColumns = refl

known_plain : (n : Option ℕ) → has_float (maybe whole n) ≡ false
known_plain None = refl
known_plain (Some n) = refl

hint_plain : (h : RowsHint) → has_float (hint_spelling h) ≡ false
hint_plain h = rw (known_plain h.known)

slice_plain : (s : PlanSlice) → has_float (slice_spelling s) ≡ false
slice_plain s = rw (integer_plain s.offset)

maybe_slice_plain : (s : Option PlanSlice) → has_float (maybe slice_spelling s) ≡ false
maybe_slice_plain None = refl
maybe_slice_plain (Some s) = slice_plain s

node_plain : (n : Node) → has_float (node_spelling n) ≡ false
node_plain (node.DataFrameScan frame columns) = rw (maybe_texts_plain columns)
node_plain (node.Filter input e) = rw (formula_plain e)
node_plain (node.SimpleProjection input cs) = rw (texts_plain cs)
node_plain (node.Select input es) = rw (nameds_plain es)
node_plain (node.HStack input es) = rw (nameds_plain es)
node_plain (node.MapFunction input (function.Unpivot on index variable value)) = rw (texts_plain index, texts_plain on)
node_plain (node.MapFunction input (function.Rename pairs)) = rw (pairs_plain pairs)
node_plain (node.Union inputs) = rw (wholes_plain inputs)
node_plain (node.Join left right left_on right_on o) =
    rw (coalesce_plain o.coalesce, how_plain o.how, formulas_plain left_on, formulas_plain right_on, hint_plain o.rows_left, hint_plain o.rows_right)
node_plain (node.Sort input by o) = rw (texts_plain by, truths_plain o.descending, truths_plain o.nulls_last, maybe_slice_plain o.slice)

-- ---- frames and jobs

column_plain : (c : Cells) → has_float (column_spelling c) ≡ false
column_plain c = rw (list_plain cell_spelling cell_plain c.cells)

frame_plain : (f : Table) → has_float (frame_spelling f) ≡ false
frame_plain f = rw (list_plain column_spelling column_plain (columns_of f))

pub task_plain : (t : Task) → has_float (task_spelling t) ≡ false
task_plain t = rw (list_plain frame_spelling frame_plain t.plan.frames, list_plain node_spelling node_plain t.plan.nodes)
