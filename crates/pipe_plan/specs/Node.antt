-- The nodes of a plan: its operators (relational algebra), whose expressions are formulas.
use Rattle.std.specs.Prelude.{ℕ, List, Option, map}
use Rattle.pipe_expr.specs.Formula.{Formula, formula_of, NamedFormula, named_formula_of}
use Rattle.pipe_expr.specs.declared.join_words.FunctionIR.{FunctionIR}
use Rattle.pipe_plan.specs.declared.ir.IR.{IR}
use Rattle.pipe_plan.specs.declared.ir.IR.TheVariants as ir
use Rattle.pipe_plan.specs.declared.ir.JoinOptions.{JoinOptions}
use Rattle.pipe_plan.specs.declared.ir.SortOptions.{SortOptions}

-- a node; its inputs are numbers of nodes
pub data Node : Type 0 where
  DataFrameScan : (frame : ℕ) → (columns : Option (List (List ℕ))) → Node
  Filter : (input : ℕ) → (predicate : Formula) → Node
  SimpleProjection : (input : ℕ) → (columns : List (List ℕ)) → Node
  Select : (input : ℕ) → (exprs : List NamedFormula) → Node
  HStack : (input : ℕ) → (exprs : List NamedFormula) → Node
  MapFunction : (input : ℕ) → (function : FunctionIR) → Node
  Union : (inputs : List ℕ) → Node
  Join : (left right : ℕ) → (left_on right_on : List Formula) → (options : JoinOptions) → Node
  Sort : (input : ℕ) → (by : List (List ℕ)) → (options : SortOptions) → Node

-- the node that a value of the code is
abbrev pub node_of : IR → Node
node_of (ir.DataFrameScan frame columns) = DataFrameScan frame columns
node_of (ir.Filter input predicate) = Filter input (formula_of predicate)
node_of (ir.SimpleProjection input columns) = SimpleProjection input columns
node_of (ir.Select input exprs) = Select input (map named_formula_of exprs)
node_of (ir.HStack input exprs) = HStack input (map named_formula_of exprs)
node_of (ir.MapFunction input function) = MapFunction input function
node_of (ir.Union inputs) = Union inputs
node_of (ir.Join left right left_on right_on options) =
    Join left right (map formula_of left_on) (map formula_of right_on) options
node_of (ir.Sort input by options) = Sort input by options
