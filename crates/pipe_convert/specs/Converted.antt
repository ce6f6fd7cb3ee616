-- What the operators, sinks and sources of a plan's nodes have to be.
use Rattle.std.specs.Prelude.{◌≡◌, ℕ, List, [], true, map, unwrap_or}
use Rattle.std.specs.List.{AllByRecursion}
use Rattle.std.specs.declared.sync.Arc.{Arc}
use Rattle.pipe_frame.specs.Frame.{Table}
use Rattle.pipe_schema.specs.Schema.{place_of}
use Rattle.pipe_rows.specs.SortOrder.{SortBy}
use Rattle.pipe_schema.specs.Rows.{Row}
use Rattle.pipe_schema.specs.declared.field.Field.{Field}
use Rattle.pipe_expr.specs.Formula.{NamedFormula}
use Rattle.pipe_expr.specs.Projections.{fields_named, row_named}
use Rattle.pipe_expr.specs.Typing.{IsTyped}
use Rattle.pipe_ops.specs.Batches.{Left}
use Rattle.pipe_ops.specs.Exprs.{IsMadeFor}
use Rattle.pipe_sort.specs.SortKeys.{Sorting, sort_rows}
use Rattle.pipe_plan.specs.Node.{Node}
use Rattle.pipe_plan.specs.Plan.{plan_of}
use Rattle.pipe_plan.specs.Under.{node_at, is_under}
use Rattle.pipe_plan.specs.PlanRows.{flag_at}
use Rattle.pipe_plan.specs.Schemas.{schema_of}
use Rattle.pipe_plan.specs.declared.ir.SortOptions.{SortOptions}
use Rattle.pipe_events.specs.Stages.{Scan, Each, Sort}
use Rattle.pipe_events.specs.PlanStages.{stage_at}
use Rattle.pipe_check.specs.Checked.{Checked}

-- a node of a checked plan, under its root
pub record IsNode (plan : Checked) (n : ℕ) (x : Node) : Type 0 where
  pub under : is_under (plan_of plan.arena).nodes plan.root n ≡ true
  pub is : node_at (plan_of plan.arena).nodes n ≡ x

-- the schema of a node of a checked plan
abbrev pub schema_in : Checked → ℕ → List Field
schema_in plan n = schema_of (plan_of plan.arena) n

-- expressions that have types over a schema
abbrev pub HasType : List Field → NamedFormula → Type 0
HasType schema e = IsTyped e.formula schema

abbrev pub AreTyped : List Field → List NamedFormula → Type 0
AreTyped schema exprs = AllByRecursion (HasType schema) exprs

-- expressions that were made for a schema
abbrev pub AreMadeFor : {P A : Type 0} → (P → List Field) → List Field → List (Arc P A) → Type 0
AreMadeFor schema_of schema shared = AllByRecursion (IsMadeFor schema_of schema) shared

-- an operator is that of a node which reads one input: it takes what the input gives, gives what the
-- node gives, makes of each row what the node makes of it, needs nothing that lanes share, and has
-- begun nothing
pub record IsOperatorOf (plan : Checked) (n input : ℕ) (takes : List Field → Type 0)
    (output : List Field → List Field) (each : List Field → Row → List Row)
    (serves idle : Type 0) : Type 0 where
  pub takes_input : takes (schema_in plan input)
  pub gives_output : output (schema_in plan input) ≡ schema_in plan n
  pub row_by_row : stage_at (plan_of plan.arena) plan.root n ≡ Each input (each (schema_in plan input))
  pub served : serves
  pub begins : idle

-- the key of a name, the i-th of a sort
abbrev pub sort_key : List Field → List ℕ → SortOptions → ℕ → SortBy
sort_key schema name options i = record {
  column = unwrap_or (place_of name schema) 0;
  descending = flag_at options.descending i;
  nulls_last = flag_at options.nulls_last i;
}

-- a sort's sink is that of a node: it takes what the input gives, which is what the node gives, it holds
-- nothing, and its rows for a list are those that the node has for it
pub record IsSinkOf (plan : Checked) (n input : ℕ) (sink : Sorting) : Type 0 where
  pub takes_input : sink.settings.schema ≡ schema_in plan input
  pub gives_output : sink.settings.schema ≡ schema_in plan n
  pub empty : sink.rows ≡ []
  pub sorts : stage_at (plan_of plan.arena) plan.root n
      ≡ Sort input (sort_rows sink.settings.keys sink.settings.slice)

-- a frame of its named columns
abbrev pub scanned_table : List (List ℕ) → Table → Table
scanned_table names frame = record {
  schema = fields_named frame.schema names;
  rows = map (row_named frame.schema names) frame.rows;
}

-- a frame is that of a scan: its rows and their schema are the node's
pub record IsScanOf (plan : Checked) (n : ℕ) (frame : Table) : Type 0 where
  pub gives_output : frame.schema ≡ schema_in plan n
  pub rows : stage_at (plan_of plan.arena) plan.root n ≡ Scan frame.rows

-- a source is that of a scan: nothing was taken, and its rows and their schema are the node's
pub record IsSourceOf (plan : Checked) (n : ℕ) (source : Left) : Type 0 where
  pub whole : source.from ≡ 0
  pub gives_output : source.schema ≡ schema_in plan n
  pub rows : stage_at (plan_of plan.arena) plan.root n ≡ Scan source.rows
