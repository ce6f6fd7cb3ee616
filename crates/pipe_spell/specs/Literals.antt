-- Literals that a job of a version may have: each is null or of the type beside it, and version 1 has no Int128.
use Rattle.std.specs.Prelude.{ℕ, Bool, true, not, ◌&&◌, ◌==◌}
use Rattle.std.specs.List.{list_all}
use Rattle.pipe_schema.specs.Cell.{fits_dtype}
use Rattle.pipe_schema.specs.declared.any_value.AnyValue.{AnyValue}
use Rattle.pipe_schema.specs.declared.data_type.DataType.{DataType}
use Rattle.pipe_expr.specs.Formula.{Formula, Column, Literal, Add, Sub, Mul, Eq, NotEq, Lt, LtEq, Gt, GtEq, And, Or, Not, IsNull, IsNotNull, NamedFormula}
use Rattle.pipe_plan.specs.Node.{Node, DataFrameScan, Filter, SimpleProjection, Select, HStack, MapFunction, Union, Join, Sort}
use Rattle.pipe_job.specs.JobSpelling.{Task}
use Rattle.pipe_job.specs.Version.{is_int128}

abbrev pub literal_known : ℕ → DataType → AnyValue → Bool
literal_known version t value = fits_dtype t value && not (version == 1 && is_int128 t)

abbrev pub formula_known : ℕ → Formula → Bool
formula_known version (Column name) = true
formula_known version (Literal t value) = literal_known version t value
formula_known version (Add left right) = formula_known version left && formula_known version right
formula_known version (Sub left right) = formula_known version left && formula_known version right
formula_known version (Mul left right) = formula_known version left && formula_known version right
formula_known version (Eq left right) = formula_known version left && formula_known version right
formula_known version (NotEq left right) = formula_known version left && formula_known version right
formula_known version (Lt left right) = formula_known version left && formula_known version right
formula_known version (LtEq left right) = formula_known version left && formula_known version right
formula_known version (Gt left right) = formula_known version left && formula_known version right
formula_known version (GtEq left right) = formula_known version left && formula_known version right
formula_known version (And left right) = formula_known version left && formula_known version right
formula_known version (Or left right) = formula_known version left && formula_known version right
formula_known version (Not inner) = formula_known version inner
formula_known version (IsNull inner) = formula_known version inner
formula_known version (IsNotNull inner) = formula_known version inner

abbrev pub named_known : ℕ → NamedFormula → Bool
named_known version e = formula_known version e.formula

abbrev pub node_known : ℕ → Node → Bool
node_known version (DataFrameScan frame columns) = true
node_known version (Filter input predicate) = formula_known version predicate
node_known version (SimpleProjection input columns) = true
node_known version (Select input exprs) = list_all (named_known version) exprs
node_known version (HStack input exprs) = list_all (named_known version) exprs
node_known version (MapFunction input f) = true
node_known version (Union inputs) = true
node_known version (Join left right left_on right_on o) =
    list_all (formula_known version) left_on && list_all (formula_known version) right_on
node_known version (Sort input by o) = true

-- whether the job of a task may have the literals that its nodes have
abbrev pub task_known : Task → Bool
task_known t = list_all (node_known t.version) t.plan.nodes
