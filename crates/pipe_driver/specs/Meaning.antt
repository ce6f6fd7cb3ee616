-- What a plan means to whoever runs its branches: where rows come to, and what has to come there.
use Rattle.std.specs.Prelude.{ℕ, List, [], ◌∷◌, ◌++◌, Bool, true, false, not, ◌==◌, ◌||◌, if◌then◌else◌, length, Option, Some, None}
use Rattle.std.specs.List.{flat_map}
use Rattle.pipe_schema.specs.Rows.{Row}
use Rattle.pipe_plan.specs.Plan.{Plan}
use Rattle.pipe_plan.specs.Under.{is_under}
use Rattle.pipe_plan.specs.PlanRows.{rows_of}
use Rattle.pipe_events.specs.Stages.{Stage, through, own_rows}
use Rattle.pipe_events.specs.Worlds.{at_join}
use Rattle.pipe_events.specs.PlanStages.{stage_at}
use Rattle.pipe_driver.specs.Shape.{Kind, Begins, Each, Unites, Joins, Sorts, kind_at, is_joining, is_sorting, probed_of, below_sink, sources_of, joins_of}
use Rattle.pipe_driver.specs.Chains.{reader, chain_of}

-- A sink goes by the number of its sort or join, and that of the root by `ordered`, which is no
-- node's
pub record Meaning : Type 0 where
  -- the rows of a node
  pub rows : ℕ → List Row
  -- those of the node below a sink
  pub below : ℕ → List Row
  -- what a row becomes at a node that it goes through
  pub each : ℕ → Row → List Row
  -- what a join has of its own in the end: rows of its built side
  pub own : ℕ → List Row
  -- the node on the probe side of a join
  pub probed : ℕ → ℕ
  pub is_sort : ℕ → Bool
  pub is_join : ℕ → Bool
  -- the rows of a node come out of it on some branch: not so of scans that a source reads together
  pub is_run : ℕ → Bool
  -- side j n: node n is join j itself, or stands under the side of j that is built
  pub side : ℕ → ℕ → Bool
  pub ordered : ℕ
  -- the joins under the root
  pub joins : List ℕ
  -- the chain of a node: operators, and the sink behind them
  pub above : ℕ → List ℕ
  pub above_sink : ℕ → ℕ

-- ---- where rows come to

-- out of a node, or into a sink
pub data Place : Type 0 where
  OutOf : (n : ℕ) → Place
  Into : (sink : ℕ) → Place

abbrev pub is_out : Place → ℕ → Bool
is_out (OutOf t) n = n == t
is_out (Into s) n = false

abbrev pub is_into : Place → ℕ → Bool
is_into (OutOf t) sink = false
is_into (Into s) sink = sink == s

abbrev pub rows_where : Bool → List Row → List Row
rows_where here rows = if here then rows else []

-- the rows that come to a place, where rows of node n go through operators into a sink
abbrev pub comes : (ℕ → Row → List Row) → Place → ℕ → List ℕ → ℕ → List Row → List Row
comes each x n [] sink rows = rows_where (is_out x n) rows ++ rows_where (is_into x sink) rows
comes each x n (op ∷ ops) sink rows =
    rows_where (is_out x n) rows ++ comes each x op ops sink (flat_map (each op) rows)

-- what rows of a node bring to a place, along its chain
abbrev pub from : Meaning → Place → ℕ → List Row → List Row
from m x n rows = comes m.each x n (m.above n) (m.above_sink n) rows

-- a place where rows come to: each node that is run, and each sink
abbrev pub is_place : Meaning → Place → Bool
is_place m (OutOf t) = m.is_run t
is_place m (Into s) = m.is_sort s || m.is_join s || (s == m.ordered)

-- what has to come there
abbrev pub due : Meaning → Place → List Row
due m (OutOf t) = m.rows t
due m (Into s) = m.below s

-- ---- the meaning of a plan

-- a plan by its parts
pub record Tree : Type 0 where
  pub kind : ℕ → Kind
  pub root : ℕ
  pub ordered : ℕ
  pub under : ℕ → ℕ → Bool
  pub rows : ℕ → List Row
  pub each : ℕ → Row → List Row
  pub own : ℕ → List Row
  pub is_run : ℕ → Bool
  pub above : ℕ → List ℕ
  pub above_sink : ℕ → ℕ
  pub sources : ℕ → List ℕ
  pub joins : ℕ → List ℕ

abbrev pub is_join_at : Tree → ℕ → Bool
is_join_at t n = if t.under t.root n then is_joining (t.kind n) else false

abbrev pub is_sort_at : Tree → ℕ → Bool
is_sort_at t n = if t.under t.root n then is_sorting (t.kind n) else false

-- whether a node is under the side of a join that is built
abbrev pub is_built_under : (ℕ → ℕ → Bool) → Kind → ℕ → Bool
is_built_under under Begins n = false
is_built_under under (Each input) n = false
is_built_under under (Unites inputs) n = false
is_built_under under (Joins built probed) n = under built n
is_built_under under (Sorts input) n = false

abbrev pub side_at : Tree → ℕ → ℕ → Bool
side_at t j n =
    if is_join_at t j then (n == j) || is_built_under t.under (t.kind j) n else false

abbrev pub below_at : Tree → ℕ → List Row
below_at t s = if s == t.ordered then t.rows t.root else t.rows (below_sink (t.kind s))

abbrev pub meaning : Tree → Meaning
meaning t = record {
  rows = t.rows;
  below = below_at t;
  each = t.each;
  own = t.own;
  probed = λ j. probed_of (t.kind j);
  is_sort = is_sort_at t;
  is_join = is_join_at t;
  is_run = t.is_run;
  side = side_at t;
  ordered = t.ordered;
  joins = t.joins t.root;
  above = t.above;
  above_sink = t.above_sink;
}

-- what a join has of its own, and nothing of any other stage
abbrev pub join_own : (ℕ → List Row) → Stage → List Row
join_own rows stage = at_join [] (λ j. own_rows rows stage) stage

-- whether a source is made of what it reads
abbrev pub is_source_over : Kind → Bool
is_source_over Begins = true
is_source_over (Each input) = false
is_source_over (Unites inputs) = false
is_source_over (Joins built probed) = false
is_source_over (Sorts input) = false

abbrev pub is_read_whole : (ℕ → Kind) → Option ℕ → Bool
is_read_whole kind None = false
is_read_whole kind (Some r) = is_source_over (kind r)

-- whether a node is a scan that a source reads together with others
abbrev pub is_part : Plan → (root : ℕ) → ℕ → Bool
is_part plan root n =
    is_read_whole (kind_at plan.nodes) (reader (stage_at plan root) (length plan.nodes) n)

abbrev pub tree_of : Plan → (root : ℕ) → Tree
tree_of plan root = record {
  kind = kind_at plan.nodes;
  root = root;
  ordered = length plan.nodes;
  under = is_under plan.nodes;
  rows = rows_of plan;
  each = λ n. through (rows_of plan) (stage_at plan root n);
  own = λ n. join_own (rows_of plan) (stage_at plan root n);
  is_run = λ n. if is_under plan.nodes root n then not (is_part plan root n) else false;
  above = λ n. (chain_of (stage_at plan root) (length plan.nodes) n).operators;
  above_sink = λ n. (chain_of (stage_at plan root) (length plan.nodes) n).sink;
  sources = sources_of plan.nodes;
  joins = joins_of plan.nodes;
}

-- the meaning of a plan
abbrev pub meaning_of : Plan → (root : ℕ) → Meaning
meaning_of plan root = meaning (tree_of plan root)
