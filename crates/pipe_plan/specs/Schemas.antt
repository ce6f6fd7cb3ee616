-- The output schema of a node, by the kind of node, over those of its inputs (relational algebra).
use Rattle.std.specs.Prelude.{ℕ, List, [], ◌∷◌, Option, Some, None, length, slice_index_or}
use Rattle.pipe_frame.specs.Frame.{Table}
use Rattle.pipe_schema.specs.declared.field.Field.{Field}
use Rattle.pipe_expr.specs.Formula.{Formula}
use Rattle.pipe_expr.specs.Projections.{fields_named, select_fields, hstack_fields, function_fields}
use Rattle.pipe_expr.specs.Joins.{Join, coalesces, join_fields}
use Rattle.pipe_plan.specs.Walk.{walk}
use Rattle.pipe_plan.specs.Node.{Node}
use Rattle.pipe_plan.specs.Node as node
use Rattle.pipe_plan.specs.Plan.{Plan}
use Rattle.pipe_plan.specs.Under.{node_at}
use Rattle.pipe_plan.specs.declared.ir.JoinOptions.{JoinOptions}

-- a frame of no column and no row
abbrev pub no_table : Table
no_table = record { schema = []; rows = [] }

-- the frame of a number
abbrev pub frame_at : List Table → ℕ → Table
frame_at frames frame = slice_index_or frames frame no_table

-- a frame's fields, or those named
abbrev pub scan_fields : List Field → Option (List (List ℕ)) → List Field
scan_fields schema None = schema
scan_fields schema (Some names) = fields_named schema names

-- the first input's schema
abbrev pub union_fields : (ℕ → List Field) → List ℕ → List Field
union_fields schema [] = []
union_fields schema (input ∷ inputs) = schema input

-- the settings of a join over the schemas of its inputs
abbrev pub join_over : List Field → List Field → List Formula → List Formula → JoinOptions → Join
join_over left right left_on right_on options = record {
  how = options.how;
  join_nulls = options.join_nulls;
  coalesced = coalesces options.how options.coalesce;
  suffix = options.suffix;
  left = left;
  right = right;
  left_on = left_on;
  right_on = right_on;
}

-- the schema of a node over those of its inputs
abbrev pub node_schema : List Table → (ℕ → List Field) → Node → List Field
node_schema frames schema (node.DataFrameScan frame columns) =
    scan_fields (frame_at frames frame).schema columns
node_schema frames schema (node.Filter input predicate) = schema input
node_schema frames schema (node.SimpleProjection input columns) =
    fields_named (schema input) columns
node_schema frames schema (node.Select input exprs) = select_fields (schema input) exprs
node_schema frames schema (node.HStack input exprs) = hstack_fields (schema input) exprs
node_schema frames schema (node.MapFunction input function) =
    function_fields function (schema input)
node_schema frames schema (node.Union inputs) = union_fields schema inputs
node_schema frames schema (node.Join left right left_on right_on options) =
    join_fields (join_over (schema left) (schema right) left_on right_on options)
node_schema frames schema (node.Sort input by options) = schema input

abbrev pub schema_at : Plan → (ℕ → List Field) → ℕ → List Field
schema_at plan below k = node_schema plan.frames below (node_at plan.nodes k)

-- the schemas of the nodes below a number
abbrev pub schemas_to : Plan → ℕ → ℕ → List Field
schemas_to plan = walk [] (schema_at plan)

-- the output schema of a node
abbrev pub schema_of : Plan → ℕ → List Field
schema_of plan n = schemas_to plan (length plan.nodes) n
