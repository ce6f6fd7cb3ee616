-- The columns that a node needs of its inputs, where some of its own are needed (relational algebra: how
-- projections commute with the other operators).
use Rattle.std.specs.Prelude.{ℕ, List, Bool, true, false, not, ◌&&◌, ◌||◌, ◌==◌, if◌then◌else◌, filter, Option, Some, None}
use Rattle.std.specs.List.{flat_map}
use Rattle.pipe_schema.specs.Schema.{has_name, names_of}
use Rattle.pipe_schema.specs.declared.field.Field.{Field}
use Rattle.pipe_expr.specs.Formula.{Formula, NamedFormula}
use Rattle.pipe_expr.specs.Types.{columns_in}
use Rattle.pipe_expr.specs.Projections.{renamed}
use Rattle.pipe_expr.specs.Joins.{Join, makes_pairs, column_names, suffixed_name}
use Rattle.pipe_expr.specs.declared.join_words.FunctionIR.{FunctionIR}
use Rattle.pipe_expr.specs.declared.join_words.FunctionIR.TheVariants as function
use Rattle.pipe_plan.specs.Node.{Node}
use Rattle.pipe_plan.specs.Node as node
use Rattle.pipe_plan.specs.Schemas.{join_over}
use Rattle.pipe_plan.specs.Faults.{expr_columns}
use Rattle.pipe_plan.specs.declared.ir.PlanSlice.{PlanSlice}

-- a set of names, as a test
abbrev pub Names : Type 0
Names = List ℕ → Bool

-- ---- one input

abbrev pub is_needed : Names → NamedFormula → Bool
is_needed needed e = needed e.name

-- the expressions under needed names
abbrev pub needed_exprs : Names → List NamedFormula → List NamedFormula
needed_exprs needed exprs = filter (is_needed needed) exprs

-- the columns that expressions read
abbrev pub columns_read : List NamedFormula → List (List ℕ)
columns_read exprs = flat_map expr_columns exprs

-- an unpivot needs all that it names; a renaming, what gets a needed name
abbrev pub function_need : Names → FunctionIR → Names
function_need needed (function.Unpivot on index variable value) name =
    has_name on name || has_name index name
function_need needed (function.Rename pairs) name = needed (renamed pairs name)

-- a sort needs its keys, and with a slice all, since ties fall by all columns
abbrev pub sort_need : Option PlanSlice → List (List ℕ) → Names → Names
sort_need None by needed name = needed name || has_name by name
sort_need (Some slice) by needed name = true

-- ---- joins

-- the columns that keys read
abbrev pub keys_read : List Formula → List (List ℕ)
keys_read on = flat_map columns_in on

-- whether a column of the right side is shown under a needed name
abbrev pub is_shown : Join → Names → Names
is_shown j needed name =
    makes_pairs j.how && not (j.coalesced && has_name (column_names j.right_on) name)
    && needed (suffixed_name j name)

-- what is shown, and what the keys read
abbrev pub right_need : Join → Names → Names
right_need j needed name = is_shown j needed name || has_name (keys_read j.right_on) name

-- what is needed and what the keys read, and each name needed of the right side, which may get the suffix by it
abbrev pub left_need : Join → Names → Names
left_need j needed name =
    needed name || has_name (keys_read j.left_on) name
    || (has_name (names_of j.right) name && right_need j needed name)

-- ---- a node

-- the names that a node needs of its i-th node as an input, where some of its own are needed
abbrev pub need : (ℕ → List Field) → Node → Names → ℕ → Names
need schema (node.DataFrameScan frame columns) needed i name = false
need schema (node.Filter input predicate) needed i name =
    needed name || has_name (columns_in predicate) name
need schema (node.SimpleProjection input columns) needed i name = needed name
need schema (node.Select input exprs) needed i name =
    has_name (columns_read (needed_exprs needed exprs)) name
need schema (node.HStack input exprs) needed i name =
    needed name || has_name (columns_read (needed_exprs needed exprs)) name
need schema (node.MapFunction input function) needed i name = function_need needed function name
need schema (node.Union inputs) needed i name = true
need schema (node.Join left right left_on right_on options) needed i name =
    let j = join_over (schema left) (schema right) left_on right_on options in
    if i == left then left_need j needed name else right_need j needed name
need schema (node.Sort input by options) needed i name = sort_need options.slice by needed name
