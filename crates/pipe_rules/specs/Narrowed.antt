-- Inputs with some of their columns alone, and nodes over them.
use Rattle.std.specs.Prelude.{ℕ, List, Bool, Some, filter, map}
use Rattle.pipe_frame.specs.Frame.{Table}
use Rattle.pipe_schema.specs.Rows.{Row}
use Rattle.pipe_schema.specs.Schema.{has_name, names_of}
use Rattle.pipe_schema.specs.declared.field.Field.{Field}
use Rattle.pipe_expr.specs.Projections.{fields_named, row_named}
use Rattle.pipe_expr.specs.declared.join_words.RenamePair.{RenamePair}
use Rattle.pipe_expr.specs.declared.join_words.FunctionIR.{FunctionIR}
use Rattle.pipe_expr.specs.declared.join_words.FunctionIR.TheVariants as function
use Rattle.pipe_plan.specs.Node.{Node}
use Rattle.pipe_plan.specs.Node as node
use Rattle.pipe_plan.specs.Schemas.{frame_at, scan_fields}
use Rattle.pipe_rules.specs.Needs.{Names, needed_exprs}

-- the names of fields that are kept, in order
abbrev pub kept_names : Names → List Field → List (List ℕ)
kept_names keep fields = filter keep (names_of fields)

abbrev pub narrow_fields : Names → List Field → List Field
narrow_fields keep fields = fields_named fields (kept_names keep fields)

abbrev pub narrow_row : Names → List Field → Row → Row
narrow_row keep fields row = row_named fields (kept_names keep fields) row

-- the schemas and the rows of nodes, narrowed
abbrev pub narrow_schema : (ℕ → Names) → (ℕ → List Field) → ℕ → List Field
narrow_schema keep schema i = narrow_fields (keep i) (schema i)

abbrev pub narrow_rows : (ℕ → Names) → (ℕ → List Field) → (ℕ → List Row) → ℕ → List Row
narrow_rows keep schema rows i = map (narrow_row (keep i) (schema i)) (rows i)

-- whether a renaming's column is there
abbrev pub is_existing : List Field → RenamePair → Bool
is_existing fields pair = has_name (names_of fields) pair.existing

abbrev pub narrow_function : List Field → FunctionIR → FunctionIR
narrow_function input (function.Unpivot on index variable value) =
    function.Unpivot on index variable value
narrow_function input (function.Rename pairs) =
    function.Rename (filter (is_existing input) pairs)

-- the node that makes the needed columns, over narrower inputs
abbrev pub narrow_node : List Table → (ℕ → List Field) → Names → Node → Node
narrow_node frames schema needed (node.DataFrameScan frame columns) =
    node.DataFrameScan frame
    (Some (kept_names needed (scan_fields (frame_at frames frame).schema columns)))
narrow_node frames schema needed (node.Filter input predicate) = node.Filter input predicate
narrow_node frames schema needed (node.SimpleProjection input columns) =
    node.SimpleProjection input (filter needed columns)
narrow_node frames schema needed (node.Select input exprs) =
    node.Select input (needed_exprs needed exprs)
narrow_node frames schema needed (node.HStack input exprs) =
    node.HStack input (needed_exprs needed exprs)
narrow_node frames schema needed (node.MapFunction input function) =
    node.MapFunction input (narrow_function (schema input) function)
narrow_node frames schema needed (node.Union inputs) = node.Union inputs
narrow_node frames schema needed (node.Join left right left_on right_on options) =
    node.Join left right left_on right_on options
narrow_node frames schema needed (node.Sort input by options) = node.Sort input by options
