-- The stages of a plan.
use Rattle.std.specs.Prelude.{◌≡◌, ℕ, ◌<◌, List, [], ◌∷◌, true, false, if◌then◌else◌, length, nat_le, None}
use Rattle.std.specs.List.{list_any}
use Rattle.pipe_frame.specs.Frame.{Table}
use Rattle.pipe_schema.specs.Rows.{Row, Same}
use Rattle.pipe_schema.specs.declared.field.Field.{Field}
use Rattle.pipe_rows.specs.SortOrder.{sorted}
use Rattle.pipe_expr.specs.Formula.{Formula}
use Rattle.pipe_expr.specs.Projections.{filter_rows, row_named, select_row, hstack_row, function_rows}
use Rattle.pipe_plan.specs.Node.{Node}
use Rattle.pipe_plan.specs.Node as node
use Rattle.pipe_plan.specs.Plan.{Plan}
use Rattle.pipe_plan.specs.Under.{node_at, inputs_of, is_under}
use Rattle.pipe_plan.specs.Schemas.{frame_at, join_over, schemas_to}
use Rattle.pipe_plan.specs.PlanRows.{scan_rows, sort_keys, slice_rows, rows_of}
use Rattle.pipe_plan.specs.Faults.{plan_fault}
use Rattle.pipe_plan.specs.Swap.{swaps}
use Rattle.pipe_plan.specs.declared.ir.JoinOptions.{JoinOptions}
use Rattle.pipe_plan.specs.declared.ir.SortOptions.{SortOptions}
use Rattle.pipe_events.specs.Stages.{Key, JoinStage, Stage, Scan, Each, Union, Sort, Joined, Stages, rows}
use Rattle.pipe_events.specs.Worlds.{Event, start}
use Rattle.pipe_events.specs.Schedules.{AllAllowed, GivesTheRows}

-- one row, filtered, named anew, and so on
abbrev pub filtered_row : Formula → List Field → Row → List Row
filtered_row predicate schema row = filter_rows predicate schema (row ∷ [])

abbrev pub one_row : (Row → Row) → Row → List Row
one_row f row = f row ∷ []

-- a sort's list, and its slice
abbrev pub sorted_slice : List Field → List (List ℕ) → SortOptions → List Row → List Row
sorted_slice schema by options rows =
    slice_rows options.slice (sorted (sort_keys schema by options) rows)

-- a join with the side that its options have built
abbrev pub join_stage : (schema : ℕ → List Field) → (left right : ℕ) → List Formula → List Formula →
    JoinOptions → JoinStage
join_stage schema left right left_on right_on options = record {
  join = join_over (schema left) (schema right) left_on right_on options;
  right_built = swaps options;
  probe = if swaps options then left else right;
  build = if swaps options then right else left;
}

abbrev pub stage_of : List Table → (schema : ℕ → List Field) → Node → Stage
stage_of frames schema (node.DataFrameScan frame columns) =
    Scan (scan_rows (frame_at frames frame) columns)
stage_of frames schema (node.Filter input predicate) =
    Each input (filtered_row predicate (schema input))
stage_of frames schema (node.SimpleProjection input columns) =
    Each input (one_row (row_named (schema input) columns))
stage_of frames schema (node.Select input exprs) =
    Each input (one_row (select_row (schema input) exprs))
stage_of frames schema (node.HStack input exprs) =
    Each input (one_row (hstack_row (schema input) exprs))
stage_of frames schema (node.MapFunction input function) =
    Each input (function_rows function (schema input))
stage_of frames schema (node.Union inputs) = Union inputs
stage_of frames schema (node.Join left right left_on right_on options) =
    Joined (join_stage schema left right left_on right_on options)
stage_of frames schema (node.Sort input by options) =
    Sort input (sorted_slice (schema input) by options)

-- the stage of a node, where it is under the root; any other has no row
abbrev pub stage_at : Plan → (root : ℕ) → ℕ → Stage
stage_at plan root k =
    if is_under plan.nodes root k
    then stage_of plan.frames (schemas_to plan k) (node_at plan.nodes k) else Union []

-- how a run goes about it: how many workers and partitions, and the partition of each key
pub record Setting : Type 0 where
  pub workers : ℕ
  pub parts : ℕ
  pub part : Key → ℕ

abbrev pub stages_of : Plan → (root : ℕ) → Setting → Stages
stages_of plan root setting = record {
  size = length plan.nodes;
  stage = stage_at plan root;
  root = root;
  workers = setting.workers;
  parts = setting.parts;
  part = setting.part;
}

-- a sort gives the same list for each list of the same rows
abbrev pub SortsAlike : (List Row → List Row) → List Row → Type 0
SortsAlike sort rows = (bag : List Row) → Same bag rows → sort bag ≡ sort rows

-- What the check of a plan grants, and what a partition is
pub record IsSoundPlan (plan : Plan) (root : ℕ) (setting : Setting) : Type 0 where
  pub rooted : root < length plan.nodes
  -- the inputs of a node are smaller numbers
  pub smaller : (k : ℕ) → k < length plan.nodes → is_under plan.nodes root k ≡ true →
      list_any (nat_le k) (inputs_of (node_at plan.nodes k)) ≡ false
  -- a sort gives one list for all lists that have the rows of its input
  pub one_list : (k input : ℕ) (by : List (List ℕ)) (options : SortOptions) →
      k < length plan.nodes →
      is_under plan.nodes root k ≡ true → node_at plan.nodes k ≡ node.Sort input by options →
      SortsAlike (sorted_slice (schemas_to plan k input) by options) (rows_of plan input)
  pub parted : (key : Key) → setting.part key < setting.parts

-- Every schedule of a plan: after each list of allowed events the root's bag is within the rows of
-- the plan; after a complete list it has them
abbrev pub EveryScheduleOfAPlan : Type 0
EveryScheduleOfAPlan =
    (plan : Plan) (root : ℕ) (setting : Setting) → IsSoundPlan plan root setting →
    (events : List Event) → AllAllowed (stages_of plan root setting) start events →
    GivesTheRows (stages_of plan root setting) events (rows_of plan root)

-- The rows of the stages are the rows of the plan
abbrev pub StagesHaveTheRows : Type 0
StagesHaveTheRows =
    (plan : Plan) (root : ℕ) (setting : Setting) (n : ℕ) → is_under plan.nodes root n ≡ true →
    rows (stages_of plan root setting) n ≡ rows_of plan n

-- Where a plan has no fault, its root is there, and the inputs of each node under it are smaller
-- numbers
abbrev pub PlansWithoutFault : Type 0
PlansWithoutFault =
    (plan : Plan) (root : ℕ) → plan_fault plan root ≡ None →
    (root < length plan.nodes)
    × ((k : ℕ) → k < length plan.nodes → is_under plan.nodes root k ≡ true →
    list_any (nat_le k) (inputs_of (node_at plan.nodes k)) ≡ false)
