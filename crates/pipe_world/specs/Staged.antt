-- A plan's stages in the code, and what they are made from.
use Rattle.std.specs.Prelude.{◌≡◌, ℕ, List, [], length, map}
use Rattle.std.specs.List.{range_with_len}
use Rattle.pipe_frame.specs.Frame.{Table}
use Rattle.pipe_schema.specs.Rows.{Row}
use Rattle.pipe_plan.specs.Node.{Node}
use Rattle.pipe_plan.specs.Node as node
use Rattle.pipe_plan.specs.Plan.{Plan, plan_of}
use Rattle.pipe_plan.specs.Under.{is_under}
use Rattle.pipe_plan.specs.Schemas.{frame_at, schema_at}
use Rattle.pipe_plan.specs.PlanRows.{scan_rows}
use Rattle.pipe_plan.specs.declared.arena.Arena.{Arena}
use Rattle.pipe_events.specs.Stages.{Key, Stage, Stages}
use Rattle.pipe_events.specs.PlanStages.{stage_at}
use Rattle.pipe_plain.specs.Tables.{table}
use Rattle.pipe_world.specs.declared.plan_tables.PlanTables.{PlanTables}

-- an arena with its root, and how many workers and partitions its stages are for
pub record Staging : Type 0 where
  pub arena : Arena
  pub root : ℕ
  pub workers : ℕ
  pub parts : ℕ

-- how many nodes there are, and the stage of each
unfoldable pub size_in : Staging → ℕ
size_in plan = length (plan_of plan.arena).nodes

unfoldable pub stage_in : Staging → ℕ → Stage
stage_in plan = stage_at (plan_of plan.arena) plan.root

-- the stages of a plan, with the partition of each key
abbrev pub parted_by : (part : Key → ℕ) → Staging → Stages
parted_by part plan = record {
  size = size_in plan;
  stage = stage_in plan;
  root = plan.root;
  workers = plan.workers;
  parts = plan.parts;
  part = part;
}

abbrev pub first_part : Key → ℕ
first_part key = 0

-- the stages of a plan where it doesn't matter to which partition a key belongs
abbrev pub staged : Staging → Stages
staged plan = parted_by first_part plan

-- the rows of a node, where it is a scan
abbrev pub scan_of : List Table → Node → List Row
scan_of frames (node.DataFrameScan frame columns) = scan_rows (frame_at frames frame) columns
scan_of frames (node.Filter input predicate) = []
scan_of frames (node.SimpleProjection input columns) = []
scan_of frames (node.Select input exprs) = []
scan_of frames (node.HStack input exprs) = []
scan_of frames (node.MapFunction input function) = []
scan_of frames (node.Union inputs) = []
scan_of frames (node.Join left right left_on right_on options) = []
scan_of frames (node.Sort input by options) = []

-- the tables of a plan
pub record AreTables (plan : Plan) (tables : PlanTables) : Type 0 where
  pub under : tables.under ≡ map (is_under plan.nodes tables.root)
      (range_with_len 0 (length plan.nodes))
  pub schemas : tables.schemas ≡ table [] (schema_at plan) (length plan.nodes)
  pub scans : tables.scans ≡ map (scan_of plan.frames) plan.nodes
