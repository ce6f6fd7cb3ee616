-- The literals of nodes.
use Rattle.std.specs.Prelude.{◌≡◌, List, Bool, true, ◌&&◌}
use Rattle.std.specs.List.{list_all}
use Rattle.pipe_schema.specs.declared.any_value.AnyValue.{AnyValue}
use Rattle.pipe_schema.specs.declared.data_type.DataType.{DataType}
use Rattle.pipe_expr.specs.Formula.{Formula, Column, Literal, Add, Sub, Mul, Eq, NotEq, Lt, LtEq, Gt, GtEq, And, Or, Not, IsNull, IsNotNull, NamedFormula}
use Rattle.pipe_plan.specs.Node.{Node}
use Rattle.pipe_plan.specs.Node as node

-- a test of literals
abbrev pub LiteralTest : Type 0
LiteralTest = DataType → AnyValue → Bool

-- whether each literal of an expression passes a test
abbrev pub literals_pass : LiteralTest → Formula → Bool
literals_pass test (Column name) = true
literals_pass test (Literal t value) = test t value
literals_pass test (Add left right) = literals_pass test left && literals_pass test right
literals_pass test (Sub left right) = literals_pass test left && literals_pass test right
literals_pass test (Mul left right) = literals_pass test left && literals_pass test right
literals_pass test (Eq left right) = literals_pass test left && literals_pass test right
literals_pass test (NotEq left right) = literals_pass test left && literals_pass test right
literals_pass test (Lt left right) = literals_pass test left && literals_pass test right
literals_pass test (LtEq left right) = literals_pass test left && literals_pass test right
literals_pass test (Gt left right) = literals_pass test left && literals_pass test right
literals_pass test (GtEq left right) = literals_pass test left && literals_pass test right
literals_pass test (And left right) = literals_pass test left && literals_pass test right
literals_pass test (Or left right) = literals_pass test left && literals_pass test right
literals_pass test (Not inner) = literals_pass test inner
literals_pass test (IsNull inner) = literals_pass test inner
literals_pass test (IsNotNull inner) = literals_pass test inner

abbrev pub named_literals_pass : LiteralTest → NamedFormula → Bool
named_literals_pass test e = literals_pass test e.formula

-- whether each literal of a node's expressions passes a test
abbrev pub node_literals_pass : LiteralTest → Node → Bool
node_literals_pass test (node.DataFrameScan frame columns) = true
node_literals_pass test (node.Filter input predicate) = literals_pass test predicate
node_literals_pass test (node.SimpleProjection input columns) = true
node_literals_pass test (node.Select input exprs) = list_all (named_literals_pass test) exprs
node_literals_pass test (node.HStack input exprs) = list_all (named_literals_pass test) exprs
node_literals_pass test (node.MapFunction input function) = true
node_literals_pass test (node.Union inputs) = true
node_literals_pass test (node.Join left right left_on right_on options) =
    list_all (literals_pass test) left_on && list_all (literals_pass test) right_on
node_literals_pass test (node.Sort input by options) = true

-- each literal of some nodes is one of others: whatever holds of all literals of these holds of all
-- of those
abbrev pub AddsNoLiteral : List Node → List Node → Type 0
AddsNoLiteral old new =
    (test : LiteralTest) → list_all (node_literals_pass test) old ≡ true
    → list_all (node_literals_pass test) new ≡ true
