-- What the version of a job says of its types: version 1 has no Int128.
use Rattle.std.specs.Prelude.{ℕ, ◌≡◌, ◌⊎◌, Bool, false, ◌||◌}
use Rattle.std.specs.List.{list_any}
use Rattle.serde_json.specs.Data.{Data}
use Rattle.pipe_schema.specs.Cell.{eq_dtype}
use Rattle.pipe_frame.specs.Frame.{Table}
use Rattle.pipe_schema.specs.declared.data_type.DataType.{DataType}
use Rattle.pipe_schema.specs.declared.data_type.DataType.TheVariants as dtype
use Rattle.pipe_schema.specs.declared.field.Field.{Field}
use Rattle.pipe_expr.specs.Formula.{Formula, Column, Literal, Add, Sub, Mul, Eq, NotEq, Lt, LtEq, Gt, GtEq, And, Or, Not, IsNull, IsNotNull, NamedFormula}
use Rattle.pipe_plan.specs.Node.{Node, DataFrameScan, Filter, SimpleProjection, Select, HStack, MapFunction, Union, Join, Sort}
use Rattle.pipe_plan.specs.Plan.{Plan}
use Rattle.pipe_job.specs.Spelling.{whole}

abbrev pub VersionFits : ℕ → Type 0
VersionFits version = (version ≡ 1) ⊎ (version ≡ 2)

-- the value spells the version
abbrev pub IsVersion : Data → ℕ → Type 0
IsVersion v version = (v ≡ whole version) × VersionFits version

abbrev pub is_int128 : DataType → Bool
is_int128 t = eq_dtype t dtype.Int128

-- whether a literal of the formula has the type Int128
abbrev pub has_int128 : Formula → Bool
has_int128 (Column name) = false
has_int128 (Literal t value) = is_int128 t
has_int128 (Add left right) = has_int128 left || has_int128 right
has_int128 (Sub left right) = has_int128 left || has_int128 right
has_int128 (Mul left right) = has_int128 left || has_int128 right
has_int128 (Eq left right) = has_int128 left || has_int128 right
has_int128 (NotEq left right) = has_int128 left || has_int128 right
has_int128 (Lt left right) = has_int128 left || has_int128 right
has_int128 (LtEq left right) = has_int128 left || has_int128 right
has_int128 (Gt left right) = has_int128 left || has_int128 right
has_int128 (GtEq left right) = has_int128 left || has_int128 right
has_int128 (And left right) = has_int128 left || has_int128 right
has_int128 (Or left right) = has_int128 left || has_int128 right
has_int128 (Not inner) = has_int128 inner
has_int128 (IsNull inner) = has_int128 inner
has_int128 (IsNotNull inner) = has_int128 inner

abbrev pub named_has_int128 : NamedFormula → Bool
named_has_int128 e = has_int128 e.formula

-- whether a literal of the node's formulas has the type Int128
abbrev pub node_has_int128 : Node → Bool
node_has_int128 (DataFrameScan frame columns) = false
node_has_int128 (Filter input predicate) = has_int128 predicate
node_has_int128 (SimpleProjection input columns) = false
node_has_int128 (Select input exprs) = list_any named_has_int128 exprs
node_has_int128 (HStack input exprs) = list_any named_has_int128 exprs
node_has_int128 (MapFunction input f) = false
node_has_int128 (Union inputs) = false
node_has_int128 (Join left right left_on right_on o) = list_any has_int128 left_on || list_any has_int128 right_on
node_has_int128 (Sort input by o) = false

abbrev pub field_has_int128 : Field → Bool
field_has_int128 field = is_int128 field.dtype

-- whether a column of the table has the type Int128
abbrev pub table_has_int128 : Table → Bool
table_has_int128 table = list_any field_has_int128 table.schema

-- whether a column of a frame or a literal of a node has the type Int128
abbrev pub plan_has_int128 : Plan → Bool
plan_has_int128 plan = list_any table_has_int128 plan.frames || list_any node_has_int128 plan.nodes

-- the types of the plan are those of the version
abbrev pub KnowsTypes : ℕ → Plan → Type 0
KnowsTypes version plan = version ≡ 1 → plan_has_int128 plan ≡ false
