-- What `optimize` makes of a job, and what a run on its text gives.
use Rattle.std.specs.Prelude.{ℕ, ◌≡◌, ◌≤◌, ◌*◌, List, ◌∷◌, length, true}
use Rattle.pipe_driver.specs.Within.{AllWithin}
use Rattle.pipe_schema.specs.Rows.{Same, SameLines}
use Rattle.pipe_job.specs.JobSpelling.{Task, TaskFits, task_spelling}
use Rattle.pipe_job.specs.Line.{line_of, lines}
use Rattle.pipe_job.specs.Reading.{ReadsJob}
use Rattle.pipe_rules.specs.Grown.{AreUnder, AreWithin, over}
use Rattle.pipe_rules.specs.Literals.{AddsNoLiteral}
use Rattle.pipe_rules.specs.Low.{AreLow, is_sort}
use Rattle.pipe_rules.specs.Sizes.{count_under}
use Rattle.pipe_rules.specs.Sorts.{sorting_of}
use Rattle.pipe_optimize.specs.Needed.{IsTrimmed}
use Rattle.pipe_plan.specs.Faults.{IsWellFormed}
use Rattle.pipe_plan.specs.Node.{Node, Sort}
use Rattle.pipe_plan.specs.Plan.{Plan}
use Rattle.pipe_plan.specs.PlanRows.{rows_of}
use Rattle.pipe_plan.specs.Schemas.{schema_of}
use Rattle.pipe_plan.specs.Under.{node_at}
use Rattle.pipe_plan.specs.declared.ir.SortOptions.{SortOptions}
use Rattle.serde_json.specs.Data.{depth}
use Rattle.serde_json.specs.Read.{max_depth}

-- how many nodes may stand under the root of a job that is optimized: each may get a filter
abbrev pub most_under : ℕ
most_under = 2048

abbrev pub nodes_under : Task → ℕ
nodes_under job = count_under job.plan.nodes job.root

-- nodes and a root that have the rows of a plan's root, with filters that stand low and scans that give what is needed
pub record IsBetterPlan (plan : Plan) (root : ℕ) (nodes : List Node) (made : ℕ) : Type 0 where
  pub good : IsWellFormed (over plan.frames nodes) made
  pub schema : schema_of (over plan.frames nodes) made ≡ schema_of plan root
  pub rows : Same (rows_of (over plan.frames nodes) made) (rows_of plan root)
  pub sort : is_sort (node_at plan.nodes root) ≡ true
      → sorting_of (node_at nodes made) ≡ sorting_of (node_at plan.nodes root)
  pub in_order : is_sort (node_at plan.nodes root) ≡ true
      → rows_of (over plan.frames nodes) made ≡ rows_of plan root
  pub low : AreLow (schema_of (over plan.frames nodes)) nodes
  pub trimmed : IsTrimmed (over plan.frames nodes) made
  pub whole : AreUnder nodes made
  pub literals : AddsNoLiteral plan.nodes nodes
  pub within : (limit : ℕ) → AreWithin plan root limit → AreWithin (over plan.frames nodes) made limit
  pub few : length nodes ≤ 2 * count_under plan.nodes root

-- a job with the same rows, whose filters stand low and whose scans give what is needed
pub record IsBetter (job better : Task) : Type 0 where
  -- the version, the numbers and the frames are those of the job,
  pub version : better.version ≡ job.version
  pub config : better.config ≡ job.config
  pub frames : better.plan.frames ≡ job.plan.frames
  -- its plan is well-formed, and has the same columns and the same rows;
  pub good : IsWellFormed better.plan better.root
  pub schema : schema_of better.plan better.root ≡ schema_of job.plan job.root
  pub rows : Same (rows_of better.plan better.root) (rows_of job.plan job.root)
  -- a sort at the root stays there, and gives the same list,
  pub sort : is_sort (node_at job.plan.nodes job.root) ≡ true
      → sorting_of (node_at better.plan.nodes better.root)
      ≡ sorting_of (node_at job.plan.nodes job.root)
  pub in_order : is_sort (node_at job.plan.nodes job.root) ≡ true
      → rows_of better.plan better.root ≡ rows_of job.plan job.root
  -- no filter stands on a filter, and no conjunct of a filter may go lower,
  pub low : AreLow (schema_of better.plan) better.plan.nodes
  -- each scan gives exactly the columns that are needed of it,
  pub trimmed : IsTrimmed better.plan better.root
  -- and each node stands under the root; what holds of each literal of the job holds of each here;
  pub whole : AreUnder better.plan.nodes better.root
  pub literals : AddsNoLiteral job.plan.nodes better.plan.nodes
  -- no node has more rows than the given ones have, nor are there more than twice the nodes
  pub within : (limit : ℕ) → AllWithin limit job.plan job.root → AllWithin limit better.plan better.root
  pub few : length better.plan.nodes ≤ 2 * nodes_under job

-- the job with these nodes and this root in place of its own
abbrev pub with_nodes : Task → List Node → ℕ → Task
with_nodes job nodes root = record {
  version = job.version;
  config = job.config;
  plan = record { nodes = nodes; frames = job.plan.frames };
  root = root;
}

-- a text is the line of such a job, which a value spells, and reads as that job, where it nests no deeper than the reader
-- goes
pub record IsOptimized (job : Task) (text : List ℕ) : Type 0 where
  pub better : Task
  pub is : IsBetter job better
  pub fits : TaskFits better
  pub text_is : text ≡ line_of (task_spelling better)
  pub reads : depth (task_spelling better) ≤ max_depth → ReadsJob text better

-- two texts of one head line have the same lines behind it, and in the same order where the job's root is a sort
pub record HaveSameLines (job : Task) (a b : List ℕ) : Type 0 where
  pub head : List ℕ
  pub rows_a : List (List ℕ)
  pub rows_b : List (List ℕ)
  pub cut_a : lines a ≡ head ∷ rows_a
  pub cut_b : lines b ≡ head ∷ rows_b
  pub same : SameLines rows_a rows_b
  pub in_order : (input : ℕ) (by : List (List ℕ)) (options : SortOptions)
      → node_at job.plan.nodes job.root ≡ Sort input by options → rows_a ≡ rows_b
