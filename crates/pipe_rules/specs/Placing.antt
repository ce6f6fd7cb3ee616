-- Where a conjunct of a filter goes below the node that the filter stands on, and what it is there
-- (relational algebra: how selections commute with the other operators).
use Rattle.std.specs.Prelude.{ℕ, List, [], ◌∷◌, Bool, true, false, not, ◌&&◌, if◌then◌else◌, Option, Some, None}
use Rattle.std.specs.List.{list_all}
use Rattle.std.specs.Str.{bytes_eq}
use Rattle.pipe_schema.specs.Schema.{has_name, names_of}
use Rattle.pipe_schema.specs.declared.field.Field.{Field}
use Rattle.pipe_expr.specs.Formula.{Formula, NamedFormula, Column, Literal, Add, Sub, Mul, Eq, NotEq, Lt, LtEq, Gt, GtEq, And, Or, Not, IsNull, IsNotNull}
use Rattle.pipe_expr.specs.Types.{columns_in}
use Rattle.pipe_expr.specs.Projections.{expr_named, renamed}
use Rattle.pipe_expr.specs.Joins.{Join, is_kept, suffixed_name}
use Rattle.pipe_expr.specs.declared.join_words.RenamePair.{RenamePair}
use Rattle.pipe_expr.specs.declared.join_words.FunctionIR.{FunctionIR}
use Rattle.pipe_expr.specs.declared.join_words.FunctionIR.TheVariants as function
use Rattle.pipe_expr.specs.declared.join_words.JoinType.{JoinType}
use Rattle.pipe_expr.specs.declared.join_words.JoinType.TheVariants as how
use Rattle.pipe_plan.specs.Node.{Node}
use Rattle.pipe_plan.specs.Node as node
use Rattle.pipe_plan.specs.Schemas.{join_over}
use Rattle.pipe_plan.specs.declared.ir.PlanSlice.{PlanSlice}
use Rattle.pipe_rules.specs.Names.{with_names}

-- where a conjunct goes, and what it is there
pub data Placing : Type 0 where
  -- it stays above the node
  Above : (conjunct : Formula) → Placing
  -- it goes onto each input of the node
  OnInputs : (conjunct : Formula) → Placing
  -- it goes onto the left input of a join
  OnLeft : (conjunct : Formula) → Placing
  -- it goes onto the right input of a join
  OnRight : (conjunct : Formula) → Placing

-- whether each column that a formula reads passes a test
abbrev pub reads_only : (List ℕ → Bool) → Formula → Bool
reads_only test formula = list_all test (columns_in formula)

-- onto each input where all that it reads passes a test
abbrev pub on_inputs_if : Bool → Formula → Formula → Placing
on_inputs_if true conjunct below = OnInputs below
on_inputs_if false conjunct below = Above conjunct

-- ---- one column per expression

-- the column that a formula is, if it is one
abbrev pub column_of : Formula → Option (List ℕ)
column_of (Column name) = Some name
column_of (Literal t value) = None
column_of (Add left right) = None
column_of (Sub left right) = None
column_of (Mul left right) = None
column_of (Eq left right) = None
column_of (NotEq left right) = None
column_of (Lt left right) = None
column_of (LtEq left right) = None
column_of (Gt left right) = None
column_of (GtEq left right) = None
column_of (And left right) = None
column_of (Or left right) = None
column_of (Not inner) = None
column_of (IsNull inner) = None
column_of (IsNotNull inner) = None

abbrev pub column_under : Option NamedFormula → Option (List ℕ)
column_under None = None
column_under (Some e) = column_of e.formula

-- the input's column that stands under a name, if it is a plain column there
abbrev pub plain_column : List NamedFormula → List ℕ → Option (List ℕ)
plain_column exprs name = column_under (expr_named exprs name)

abbrev pub is_there : Option (List ℕ) → Bool
is_there None = false
is_there (Some name) = true

abbrev pub is_plain : List NamedFormula → List ℕ → Bool
is_plain exprs name = is_there (plain_column exprs name)

abbrev pub name_or : List ℕ → Option (List ℕ) → List ℕ
name_or name None = name
name_or name (Some other) = other

-- the input's name of what stands under a name
abbrev pub plain_name : List NamedFormula → List ℕ → List ℕ
plain_name exprs name = name_or name (plain_column exprs name)

abbrev pub below_select : List NamedFormula → Formula → Placing
below_select exprs conjunct =
    on_inputs_if (reads_only (is_plain exprs) conjunct) conjunct
    (with_names (plain_name exprs) conjunct)

-- ---- the input's columns, with those of expressions

abbrev pub is_replacing : Option NamedFormula → Bool
is_replacing None = false
is_replacing (Some e) = true

-- whether a name is a field of the input that no expression replaces
abbrev pub is_passed_on : List Field → List NamedFormula → List ℕ → Bool
is_passed_on input exprs name =
    has_name (names_of input) name && not (is_replacing (expr_named exprs name))

abbrev pub below_hstack : List Field → List NamedFormula → Formula → Placing
below_hstack input exprs conjunct =
    on_inputs_if (reads_only (is_passed_on input exprs) conjunct) conjunct conjunct

-- ---- functions

-- the old name of the first field that gets a name
abbrev pub old_name : List RenamePair → List Field → List ℕ → List ℕ
old_name pairs [] name = name
old_name pairs (field ∷ fields) name =
    if bytes_eq (renamed pairs field.name) name then field.name else old_name pairs fields name

abbrev pub below_function : List Field → FunctionIR → Formula → Placing
below_function input (function.Unpivot on index variable value) conjunct =
    on_inputs_if (reads_only (has_name index) conjunct) conjunct conjunct
below_function input (function.Rename pairs) conjunct =
    OnInputs (with_names (old_name pairs input) conjunct)

-- ---- joins

abbrev pub is_not_in : List Field → List ℕ → Bool
is_not_in fields name = not (has_name (names_of fields) name)

-- the right name of the first kept right field that stands under a name in the join's output
abbrev pub right_name : Join → List Field → List ℕ → List ℕ
right_name j [] name = name
right_name j (field ∷ fields) name =
    if is_kept j field && bytes_eq (suffixed_name j field.name) name then field.name
    else right_name j fields name

-- onto the left where it reads left columns alone
abbrev pub on_left_or : Bool → Formula → Placing → Placing
on_left_or true conjunct other = OnLeft conjunct
on_left_or false conjunct other = other

-- onto the right where it reads right columns alone
abbrev pub on_right_or : Bool → Formula → Placing → Placing
on_right_or true below other = OnRight below
on_right_or false below other = other

abbrev pub on_left : Join → Formula → Placing → Placing
on_left j conjunct other = on_left_or (reads_only (has_name (names_of j.left)) conjunct) conjunct other

abbrev pub on_right : Join → Formula → Placing
on_right j conjunct =
    on_right_or (reads_only (is_not_in j.left) conjunct)
    (with_names (right_name j j.right) conjunct) (Above conjunct)

abbrev pub below_join : JoinType → Join → Formula → Placing
below_join how.Inner j conjunct = on_left j conjunct (on_right j conjunct)
below_join how.Cross j conjunct = on_left j conjunct (on_right j conjunct)
below_join how.Left j conjunct = on_left j conjunct (Above conjunct)
below_join how.Semi j conjunct = on_left j conjunct (Above conjunct)
below_join how.Anti j conjunct = on_left j conjunct (Above conjunct)
below_join how.Full j conjunct = Above conjunct

-- ---- sorts

abbrev pub below_slice : Option PlanSlice → Formula → Placing
below_slice None conjunct = OnInputs conjunct
below_slice (Some slice) conjunct = Above conjunct

-- ---- a node

-- where a conjunct of a filter on a node goes, over the schemas of the node's first and second input
abbrev pub placing : List Field → List Field → Node → Formula → Placing
placing left right (node.DataFrameScan frame columns) conjunct = Above conjunct
placing left right (node.Filter input predicate) conjunct = OnInputs conjunct
placing left right (node.SimpleProjection input columns) conjunct = OnInputs conjunct
placing left right (node.Select input exprs) conjunct = below_select exprs conjunct
placing left right (node.HStack input exprs) conjunct = below_hstack left exprs conjunct
placing left right (node.MapFunction input function) conjunct =
    below_function left function conjunct
placing left right (node.Union inputs) conjunct = OnInputs conjunct
placing left right (node.Join l r left_on right_on options) conjunct =
    below_join options.how (join_over left right left_on right_on options) conjunct
placing left right (node.Sort input by options) conjunct = below_slice options.slice conjunct
