-- What is made of the nodes of a checked plan.
use Rattle.std.specs.Prelude.{◌≡◌, ℕ, ◌<◌, ◌+◌, List, [], ◌∷◌, Bool, true, false, Option, Some, None, if◌then◌else◌, length, slice_index_or}
use Rattle.std.specs.declared.alloc.Global.{Global}
use Rattle.std.specs.declared.sync.Arc.{Arc}
use Rattle.pipe_schema.specs.Rows.{Row}
use Rattle.pipe_plan.specs.Node.{Node}
use Rattle.pipe_plan.specs.Node as node
use Rattle.pipe_plan.specs.Under.{node_at}
use Rattle.pipe_plan.specs.declared.ir.SortOptions.{SortOptions}
use Rattle.pipe_sort.specs.SortKeys.{Sorting}
use Rattle.pipe_driver.specs.declared.branch.SinkAt.{SinkAt}
use Rattle.pipe_driver.specs.declared.branch.SinkAt.TheVariants as at
use Rattle.pipe_driver.specs.Texts.{node_word, sink_word}
use Rattle.pipe_table.specs.declared.spec.JoinSpec.{JoinSpec}
use Rattle.pipe_run.specs.declared.stage.Stage.{Stage}
use Rattle.pipe_slots.specs.PhysWords.{text_of}
use Rattle.pipe_slots.specs.Places.{Place}
use Rattle.pipe_slots.specs.declared.phys_operator.PhysOperator.{PhysOperator}
use Rattle.pipe_slots.specs.Sinks.{SinkSetting, OrderedBy, setting_in, sink_rows, sink_schema, sink_text}
use Rattle.pipe_engine.specs.Stands.{Settings, IsOperatorOf, EndsAt}
use Rattle.pipe_slots.specs.declared.phys_sink.PhysSink.{PhysSink}
use Rattle.pipe_check.specs.Checked.{Checked}
use Rattle.pipe_convert.specs.Converted.{IsNode, IsSinkOf as IsSortOf, schema_in}
use Rattle.pipe_driver.specs.Legs.{sink_node}
use Rattle.pipe_convert.specs.Joins.{IsSpecOf, spec_at}
use Rattle.pipe_convert.specs.Nodes.{nodes_in, rows_in, meaning_in}
use Rattle.pipe_convert.specs.Steps.{GoesThrough, IsGiven, IsThere}

abbrev pub Specs : Type 0
Specs = List (Option (Arc JoinSpec Global))

-- ---- nodes

-- whether rows go through a node, and whether it sorts them
abbrev pub lets_through : Node → Bool
lets_through (node.DataFrameScan frame columns) = false
lets_through (node.Filter input predicate) = true
lets_through (node.SimpleProjection input columns) = true
lets_through (node.Select input exprs) = true
lets_through (node.HStack input exprs) = true
lets_through (node.MapFunction input function) = true
lets_through (node.Union inputs) = true
lets_through (node.Join left right left_on right_on options) = true
lets_through (node.Sort input by options) = false

abbrev pub sorts_rows : Node → Bool
sorts_rows (node.DataFrameScan frame columns) = false
sorts_rows (node.Filter input predicate) = false
sorts_rows (node.SimpleProjection input columns) = false
sorts_rows (node.Select input exprs) = false
sorts_rows (node.HStack input exprs) = false
sorts_rows (node.MapFunction input function) = false
sorts_rows (node.Union inputs) = false
sorts_rows (node.Join left right left_on right_on options) = false
sorts_rows (node.Sort input by options) = true

-- the rows of a plan's root in their order, where it is a sort
abbrev pub order_in : Checked → Option (List Row)
order_in plan =
    if sorts_rows (node_at (nodes_in plan) plan.root) then Some (rows_in plan plan.root) else None

-- a checked plan's joins, sinks and schemas, and the order of its root, as who runs its pipelines
-- knows them
abbrev pub settings_with : {H : Type 0} → Checked → Specs → (SinkAt → SinkSetting H) → (hasher : H) →
    (parts : ℕ) → Settings H
settings_with plan specs sinks hasher parts = record {
  spec_at = spec_at specs;
  setting_at = sinks;
  schema_at = schema_in plan;
  hasher = hasher;
  parts = parts;
  order = order_in plan;
}

-- the place of a node's own sink: of a sort that of its rows, of a join that of the side that is built
abbrev pub own_sink : Node → (n : ℕ) → Option SinkAt
own_sink (node.DataFrameScan frame columns) n = None
own_sink (node.Filter input predicate) n = None
own_sink (node.SimpleProjection input columns) n = None
own_sink (node.Select input exprs) n = None
own_sink (node.HStack input exprs) n = None
own_sink (node.MapFunction input function) n = None
own_sink (node.Union inputs) n = None
own_sink (node.Join left right left_on right_on options) n = Some (at.Build n)
own_sink (node.Sort input by options) n = Some (at.Sort n)

-- ---- operators

-- an operator is that of a node, whichever node's rows go through it, and has its text
pub record IsOperatorAt {H : Type 0} (plan : Checked) (specs : Specs) (n : ℕ)
    (o : PhysOperator H) : Type 0 where
  pub does : (sinks : SinkAt → SinkSetting H) (hasher : H) (parts given : ℕ) →
      GoesThrough plan given n →
      IsOperatorOf (settings_with plan specs sinks hasher parts) (meaning_in plan) given n o
  pub text : text_of o ≡ node_word (node_at (nodes_in plan) n)

-- the place of a join's probe, with the join's own spec
pub record IsPlaceAt (plan : Checked) (specs : Specs) (n : ℕ) (p : Place) : Type 0 where
  pub node : p.node ≡ n
  pub spec : p.spec ≡ spec_at specs n
  pub good : IsSpecOf plan n (spec_at specs n)

-- ---- sinks

-- a sink is that of a place, whichever node's rows it is given, has its text and holds nothing
pub record IsSinkAt {H : Type 0} (plan : Checked) (specs : Specs) (hasher : H) (parts : ℕ)
    (at : SinkAt) (k : PhysSink H) : Type 0 where
  pub schema : (given : ℕ) → IsGiven plan at given → sink_schema k ≡ schema_in plan given
  pub ends : (sinks : SinkAt → SinkSetting H) →
      EndsAt (settings_with plan specs sinks hasher parts) (meaning_in plan) at (setting_in k)
  pub empty : sink_rows k ≡ []
  pub text : sink_text k ≡ sink_word (nodes_in plan) at

-- a sort's sink is that of a node
pub record IsSortAt (plan : Checked) (n : ℕ) (sink : Sorting) : Type 0 where
  pub input : ℕ
  pub by : List (List ℕ)
  pub options : SortOptions
  pub at_n : IsNode plan n (node.Sort input by options)
  pub is : IsSortOf plan n input sink

abbrev pub Sinks : (H : Type 0) → Type 0
Sinks H = List (Option (PhysSink H))

abbrev pub IsSomeSinkAt : {H : Type 0} → Checked → Specs → (hasher : H) → (parts : ℕ) → SinkAt →
    Option (PhysSink H) → Type 0
IsSomeSinkAt plan specs hasher parts at None = ⊥
IsSomeSinkAt plan specs hasher parts at (Some k) = IsSinkAt plan specs hasher parts at k

-- the sink of a place, among some by the numbers of their sorts and joins, with that of the root last
abbrev pub sink_at : {H : Type 0} → Checked → Sinks H → SinkAt → Option (PhysSink H)
sink_at plan sinks at = slice_index_or sinks (sink_node (length (nodes_in plan)) at) None

-- the sink of each place of a plan
pub record AreSinks {H : Type 0} (plan : Checked) (specs : Specs) (hasher : H) (parts : ℕ)
    (sinks : Sinks H) : Type 0 where
  pub sized : length sinks ≡ length (nodes_in plan) + 1
  pub each : (at : SinkAt) → IsThere (meaning_in plan) at →
      IsSomeSinkAt plan specs hasher parts at (sink_at plan sinks at)

-- what is known of the sink of a node, where it is a sort or a join
pub record IsNodeSink {H : Type 0} (plan : Checked) (specs : Specs) (hasher : H) (parts : ℕ)
    (n : ℕ) (o : Option (PhysSink H)) : Type 0 where
  pub sort : IsThere (meaning_in plan) (at.Sort n) → IsSomeSinkAt plan specs hasher parts (at.Sort n) o
  pub join : IsThere (meaning_in plan) (at.Build n) →
      IsSomeSinkAt plan specs hasher parts (at.Build n) o

-- of each node of a plan, by its number
pub record AreNodeSinks {H : Type 0} (plan : Checked) (specs : Specs) (hasher : H) (parts : ℕ)
    (sinks : Sinks H) : Type 0 where
  pub sized : length sinks ≡ length (nodes_in plan)
  pub each : (n : ℕ) → n < length (nodes_in plan) →
      IsNodeSink plan specs hasher parts n (slice_index_or sinks n None)

-- its settings, or any where there is none
abbrev pub setting_or_none : {H : Type 0} → Option (PhysSink H) → SinkSetting H
setting_or_none None = OrderedBy []
setting_or_none (Some k) = setting_in k

abbrev pub setting_at : {H : Type 0} → Checked → Sinks H → SinkAt → SinkSetting H
setting_at plan sinks at = setting_or_none (sink_at plan sinks at)

abbrev pub settings_in : {H : Type 0} → Checked → Specs → Sinks H → (hasher : H) → (parts : ℕ) →
    Settings H
settings_in plan specs sinks hasher parts =
    settings_with plan specs (setting_at plan sinks) hasher parts

-- a sink is split from that of a place, among the sinks of a plan
pub record IsSinkSplit {H : Type 0} (plan : Checked) (specs : Specs) (sinks : Sinks H) (hasher : H)
    (parts : ℕ) (at : SinkAt) (k : PhysSink H) : Type 0 where
  pub setting : setting_in k ≡ setting_at plan sinks at
  pub schema : (given : ℕ) → IsGiven plan at given → sink_schema k ≡ schema_in plan given
  pub ends : EndsAt (settings_in plan specs sinks hasher parts) (meaning_in plan) at
      (setting_at plan sinks at)
  pub empty : sink_rows k ≡ []
  pub text : sink_text k ≡ sink_word (nodes_in plan) at

-- ---- stages

-- stages are those of some nodes
abbrev pub AreStagesAt : {H : Type 0} → Checked → Specs → (given : ℕ) →
    List (Stage (PhysOperator H)) → List ℕ → Type 0
AreStagesAt plan specs given [] [] = Unit {0}
AreStagesAt plan specs given [] (n ∷ ns) = ⊥
AreStagesAt plan specs given (stage ∷ stages) [] = ⊥
AreStagesAt plan specs given (stage ∷ stages) (n ∷ ns) =
    (stage.node ≡ given) × IsOperatorAt plan specs n stage.operator
    × AreStagesAt plan specs n stages ns
