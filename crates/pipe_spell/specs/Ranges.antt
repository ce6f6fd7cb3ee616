-- Numbers within the ranges of their types. Whether a literal has the type that is written beside it isn't looked at here.
use Rattle.std.specs.Prelude.{◌^◌, ◌<◌, ⊤, FitsSigned}
use Rattle.std.specs.Int.{w32, w64, w128}
use Rattle.std.specs.List.{AllByRecursion}
use Rattle.hex.specs.Hex.{IsBytes}
use Rattle.pipe_schema.specs.declared.any_value.AnyValue.{AnyValue}
use Rattle.pipe_schema.specs.declared.any_value.AnyValue.TheVariants as cell
use Rattle.pipe_expr.specs.Formula.{Formula, Column, Literal, Add, Sub, Mul, Eq, NotEq, Lt, LtEq, Gt, GtEq, And, Or, Not, IsNull, IsNotNull, NamedFormula, formula_of, named_formula_of}
use Rattle.pipe_expr.specs.declared.expr.Expr.{Expr}
use Rattle.pipe_expr.specs.declared.expr.NamedExpr.{NamedExpr}
use Rattle.pipe_plan.specs.Node.{Node, DataFrameScan, Filter, SimpleProjection, Select, HStack, MapFunction, Union, Join, Sort, node_of}
use Rattle.pipe_plan.specs.declared.ir.IR.{IR}
use Rattle.pipe_job.specs.JobSpelling.{Task}
use Rattle.pipe_job.specs.NodeSpelling.{Fits32, HintFits, SliceFits}
use Rattle.pipe_job.specs.Spelling.{MaybeFits}

abbrev pub CellInRange : AnyValue → Type 0
CellInRange cell.Null = ⊤
CellInRange (cell.Int32 z) = FitsSigned w32 z
CellInRange (cell.Int64 z) = FitsSigned w64 z
CellInRange (cell.UInt32 n) = n < 2 ^ 32
CellInRange (cell.UInt64 n) = n < 2 ^ 64
CellInRange (cell.Boolean b) = ⊤
CellInRange (cell.String s) = ⊤
CellInRange (cell.Binary b) = IsBytes b
CellInRange (cell.Int128 z) = FitsSigned w128 z

-- each literal is within its range
abbrev pub FormulaInRange : Formula → Type 0
FormulaInRange (Column name) = ⊤
FormulaInRange (Literal t value) = CellInRange value
FormulaInRange (Add left right) = FormulaInRange left × FormulaInRange right
FormulaInRange (Sub left right) = FormulaInRange left × FormulaInRange right
FormulaInRange (Mul left right) = FormulaInRange left × FormulaInRange right
FormulaInRange (Eq left right) = FormulaInRange left × FormulaInRange right
FormulaInRange (NotEq left right) = FormulaInRange left × FormulaInRange right
FormulaInRange (Lt left right) = FormulaInRange left × FormulaInRange right
FormulaInRange (LtEq left right) = FormulaInRange left × FormulaInRange right
FormulaInRange (Gt left right) = FormulaInRange left × FormulaInRange right
FormulaInRange (GtEq left right) = FormulaInRange left × FormulaInRange right
FormulaInRange (And left right) = FormulaInRange left × FormulaInRange right
FormulaInRange (Or left right) = FormulaInRange left × FormulaInRange right
FormulaInRange (Not inner) = FormulaInRange inner
FormulaInRange (IsNull inner) = FormulaInRange inner
FormulaInRange (IsNotNull inner) = FormulaInRange inner

abbrev pub NamedInRange : NamedFormula → Type 0
NamedInRange e = FormulaInRange e.formula

-- each number and each literal is within its range
abbrev pub NodeInRange : Node → Type 0
NodeInRange (DataFrameScan frame columns) = Fits32 frame
NodeInRange (Filter input predicate) = Fits32 input × FormulaInRange predicate
NodeInRange (SimpleProjection input columns) = Fits32 input
NodeInRange (Select input exprs) = Fits32 input × AllByRecursion NamedInRange exprs
NodeInRange (HStack input exprs) = Fits32 input × AllByRecursion NamedInRange exprs
NodeInRange (MapFunction input f) = Fits32 input
NodeInRange (Union inputs) = AllByRecursion Fits32 inputs
NodeInRange (Join left right left_on right_on o) =
    Fits32 left × Fits32 right × AllByRecursion FormulaInRange left_on
    × AllByRecursion FormulaInRange right_on × HintFits o.rows_left × HintFits o.rows_right
NodeInRange (Sort input by o) = Fits32 input × MaybeFits SliceFits o.slice

-- ---- of the values of the code

abbrev pub ExprInRange : Expr → Type 0
ExprInRange e = FormulaInRange (formula_of e)

abbrev pub NamedExprInRange : NamedExpr → Type 0
NamedExprInRange e = NamedInRange (named_formula_of e)

abbrev pub IrInRange : IR → Type 0
IrInRange x = NodeInRange (node_of x)

-- each number of a job and of its nodes is within its range
pub record TaskInRange (t : Task) : Type 0 where
  pub workers : Fits32 t.config.workers
  pub chunk_rows : Fits32 t.config.chunk_rows
  pub row_limit : Fits32 t.config.row_limit
  pub root : Fits32 t.root
  pub nodes : AllByRecursion NodeInRange t.plan.nodes
