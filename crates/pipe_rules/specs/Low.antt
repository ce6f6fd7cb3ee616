-- Filters that stand as low as they can.
use Rattle.std.specs.Prelude.{◌≡◌, ◌<◌, ℕ, List, Bool, true, false, length}
use Rattle.std.specs.List.{AllByRecursion}
use Rattle.pipe_schema.specs.declared.field.Field.{Field}
use Rattle.pipe_expr.specs.Formula.{Formula, Column, Literal, Add, Sub, Mul, Eq, NotEq, Lt, LtEq, Gt, GtEq, And, Or, Not, IsNull, IsNotNull}
use Rattle.pipe_plan.specs.Node.{Node}
use Rattle.pipe_plan.specs.Node as node
use Rattle.pipe_plan.specs.Under.{node_at}
use Rattle.pipe_rules.specs.Conjuncts.{conjuncts_of}
use Rattle.pipe_rules.specs.Placing.{Above}
use Rattle.pipe_rules.specs.Placed.{placing_at}
use Rattle.pipe_rules.specs.FilterLaws.{IsPredicate}

abbrev pub is_filter : Node → Bool
is_filter (node.DataFrameScan frame columns) = false
is_filter (node.Filter input predicate) = true
is_filter (node.SimpleProjection input columns) = false
is_filter (node.Select input exprs) = false
is_filter (node.HStack input exprs) = false
is_filter (node.MapFunction input function) = false
is_filter (node.Union inputs) = false
is_filter (node.Join left right left_on right_on options) = false
is_filter (node.Sort input by options) = false

abbrev pub is_sort : Node → Bool
is_sort (node.DataFrameScan frame columns) = false
is_sort (node.Filter input predicate) = false
is_sort (node.SimpleProjection input columns) = false
is_sort (node.Select input exprs) = false
is_sort (node.HStack input exprs) = false
is_sort (node.MapFunction input function) = false
is_sort (node.Union inputs) = false
is_sort (node.Join left right left_on right_on options) = false
is_sort (node.Sort input by options) = true

-- a conjunct of a filter on a node doesn't go lower
abbrev pub Stays : (ℕ → List Field) → Node → Formula → Type 0
Stays schema x conjunct = placing_at schema x conjunct ≡ Above conjunct

-- a filter stands on no filter, and none of its conjuncts goes lower
abbrev pub IsLow : (ℕ → List Field) → List Node → Node → Type 0
IsLow schema nodes (node.DataFrameScan frame columns) = Unit {0}
IsLow schema nodes (node.Filter input predicate) =
    (is_filter (node_at nodes input) ≡ false)
    × AllByRecursion (Stays schema (node_at nodes input)) (conjuncts_of predicate)
IsLow schema nodes (node.SimpleProjection input columns) = Unit {0}
IsLow schema nodes (node.Select input exprs) = Unit {0}
IsLow schema nodes (node.HStack input exprs) = Unit {0}
IsLow schema nodes (node.MapFunction input function) = Unit {0}
IsLow schema nodes (node.Union inputs) = Unit {0}
IsLow schema nodes (node.Join left right left_on right_on options) = Unit {0}
IsLow schema nodes (node.Sort input by options) = Unit {0}

-- each filter among some nodes stands low
abbrev pub AreLow : (ℕ → List Field) → List Node → Type 0
AreLow schema nodes = (m : ℕ) → m < length nodes → IsLow schema nodes (node_at nodes m)

abbrev pub is_and : Formula → Bool
is_and (Column name) = false
is_and (Literal t value) = false
is_and (Add left right) = false
is_and (Sub left right) = false
is_and (Mul left right) = false
is_and (Eq left right) = false
is_and (NotEq left right) = false
is_and (Lt left right) = false
is_and (LtEq left right) = false
is_and (Gt left right) = false
is_and (GtEq left right) = false
is_and (And left right) = true
is_and (Or left right) = false
is_and (Not inner) = false
is_and (IsNull inner) = false
is_and (IsNotNull inner) = false

-- a truth value that isn't made of parts joined by `And`
pub record IsConjunct (schema : List Field) (f : Formula) : Type 0 where
  pub typed : IsPredicate schema f
  pub single : is_and f ≡ false
