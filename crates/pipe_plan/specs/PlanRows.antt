-- The rows of a node: nested loops over lists, by the kind of node, over the rows of its inputs
-- (relational algebra; a sort that is total, and then SQL's OFFSET and LIMIT).
use Rattle.std.specs.Prelude.{ℕ, ℤ, pos, negsuc, ◌+◌, List, [], ◌∷◌, Bool, false, ◌==◌, if◌then◌else◌, Option, Some, None, length, map, slice_index_or, unwrap_or}
use Rattle.std.specs.List.{flat_map}
use Rattle.pipe_frame.specs.Frame.{Table}
use Rattle.pipe_schema.specs.Rows.{Row}
use Rattle.pipe_schema.specs.Schema.{place_of}
use Rattle.pipe_schema.specs.declared.field.Field.{Field}
use Rattle.pipe_rows.specs.SortOrder.{SortBy, sorted, sliced}
use Rattle.pipe_expr.specs.Projections.{filter_rows, row_named, select_row, hstack_row, function_rows}
use Rattle.pipe_expr.specs.Joins.{join_rows}
use Rattle.pipe_plan.specs.Walk.{walk}
use Rattle.pipe_plan.specs.Node.{Node}
use Rattle.pipe_plan.specs.Node as node
use Rattle.pipe_plan.specs.Plan.{Plan}
use Rattle.pipe_plan.specs.Under.{node_at}
use Rattle.pipe_plan.specs.Schemas.{frame_at, join_over, schemas_to}
use Rattle.pipe_plan.specs.declared.ir.SortOptions.{SortOptions}
use Rattle.pipe_plan.specs.declared.ir.PlanSlice.{PlanSlice}

-- a frame's rows, or of each the cells named
abbrev pub scan_rows : Table → Option (List (List ℕ)) → List Row
scan_rows table None = table.rows
scan_rows table (Some names) = map (row_named table.schema names) table.rows

-- the flag of the i-th key: one flag for several keys stands for each
abbrev pub flag_at : List Bool → ℕ → Bool
flag_at flags i =
    if length flags == 1 then slice_index_or flags 0 false else slice_index_or flags i false

-- the sort's keys, counted from i
abbrev pub keys_from : ℕ → List Field → List (List ℕ) → SortOptions → List SortBy
keys_from i schema [] options = []
keys_from i schema (name ∷ names) options =
    record {
      column = unwrap_or (place_of name schema) 0;
      descending = flag_at options.descending i;
      nulls_last = flag_at options.nulls_last i;
    } ∷ keys_from (i + 1) schema names options

abbrev pub sort_keys : List Field → List (List ℕ) → SortOptions → List SortBy
sort_keys schema by options = keys_from 0 schema by options

-- how many rows a slice skips
abbrev pub skipped : ℤ → ℕ
skipped (pos n) = n
skipped (negsuc n) = 0

abbrev pub slice_rows : Option PlanSlice → List Row → List Row
slice_rows None rows = rows
slice_rows (Some slice) rows = sliced (skipped slice.offset) slice.len rows

-- the rows of a node over the schemas and the rows of its inputs
abbrev pub node_rows : List Table → (ℕ → List Field) → (ℕ → List Row) → Node → List Row
node_rows frames schema rows (node.DataFrameScan frame columns) =
    scan_rows (frame_at frames frame) columns
node_rows frames schema rows (node.Filter input predicate) =
    filter_rows predicate (schema input) (rows input)
node_rows frames schema rows (node.SimpleProjection input columns) =
    map (row_named (schema input) columns) (rows input)
node_rows frames schema rows (node.Select input exprs) =
    map (select_row (schema input) exprs) (rows input)
node_rows frames schema rows (node.HStack input exprs) =
    map (hstack_row (schema input) exprs) (rows input)
node_rows frames schema rows (node.MapFunction input function) =
    flat_map (function_rows function (schema input)) (rows input)
node_rows frames schema rows (node.Union inputs) = flat_map rows inputs
node_rows frames schema rows (node.Join left right left_on right_on options) =
    let j = join_over (schema left) (schema right) left_on right_on options in
    join_rows j (rows left) (rows right)
node_rows frames schema rows (node.Sort input by options) =
    slice_rows options.slice (sorted (sort_keys (schema input) by options) (rows input))

abbrev pub rows_at : Plan → (ℕ → List Row) → ℕ → List Row
rows_at plan below k = node_rows plan.frames (schemas_to plan k) below (node_at plan.nodes k)

-- the rows of the nodes below a number
abbrev pub rows_to : Plan → ℕ → ℕ → List Row
rows_to plan = walk [] (rows_at plan)

-- the rows of a node
abbrev pub rows_of : Plan → ℕ → List Row
rows_of plan n = rows_to plan (length plan.nodes) n
