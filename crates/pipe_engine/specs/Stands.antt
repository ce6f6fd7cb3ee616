-- When the operators and the sink of a leg are those of the plan.
use Rattle.std.specs.Prelude.{◌≡◌, ℕ, List, [], ◌∷◌, true, false, Option, Some, None}
use Rattle.pipe_schema.specs.Rows.{Row, Same}
use Rattle.pipe_schema.specs.declared.field.Field.{Field}
use Rattle.pipe_expr.specs.Shares.{probe_share, built_share}
use Rattle.pipe_expr.specs.declared.join_words.JoinType.TheVariants as how
use Rattle.pipe_driver.specs.declared.branch.SinkAt.{SinkAt}
use Rattle.pipe_driver.specs.declared.branch.SinkAt.TheVariants as at
use Rattle.pipe_driver.specs.Meaning.{Meaning}
use Rattle.pipe_driver.specs.Legs.{Leg, sink_node}
use Rattle.pipe_table.specs.Spec.{IsSpec, settings_of, built_schema}
use Rattle.pipe_table.specs.declared.spec.JoinSpec.{JoinSpec}
use Rattle.pipe_run.specs.declared.stage.SinkStage.{SinkStage}
use Rattle.pipe_run.specs.declared.stage.Stage.{Stage}
use Rattle.pipe_slots.specs.Kinds.{kind_of}
use Rattle.pipe_slots.specs.JoinWords.{takes_join, output_join}
use Rattle.pipe_slots.specs.PhysWords.{takes_of, output_of, work_of}
use Rattle.pipe_slots.specs.Places.{Place}
use Rattle.pipe_slots.specs.declared.phys_operator.PhysOperator.{PhysOperator}
use Rattle.pipe_slots.specs.declared.phys_operator.PhysOperator.TheVariants as op
use Rattle.pipe_slots.specs.declared.slot.Slot.{Slot}
use Rattle.pipe_chain.specs.Unmarking.{no_key, no_row}
use Rattle.pipe_slots.specs.Sinks.{SinkSetting, OrderedBy, SortedBy, BuiltBy, CrossedBy, may_end, setting_in, sink_rows, sink_schema}
use Rattle.pipe_engine.specs.declared.part.Part.{Part}
use Rattle.pipe_slots.specs.declared.phys_sink.PhysSink.{PhysSink}

-- what is known of a plan besides what it means: the settings of its joins and its sinks, the schemas
-- of its nodes, how the tables of its joins are made, and the rows of its root, where that is a sort
pub record Settings (H : Type 0) : Type 0 where
  pub spec_at : ℕ → JoinSpec
  pub setting_at : SinkAt → SinkSetting H
  pub schema_at : ℕ → List Field
  pub hasher : H
  pub parts : ℕ
  pub order : Option (List Row)

-- rows are these, where they have an order
abbrev pub IsInOrder : Option (List Row) → List Row → Type 0
IsInOrder None rows = Unit {0}
IsInOrder (Some due) rows = rows ≡ due

-- a join with its settings
pub record IsJoinOf {H : Type 0} (x : Settings H) (m : Meaning) (j : ℕ) : Type 0 where
  pub is_join : m.is_join j ≡ true
  pub good : IsSpec (x.spec_at j)
  pub takes : takes_join (kind_of (x.spec_at j).how (x.spec_at j).swapped) (x.spec_at j)
      (x.schema_at (m.probed j))
  pub output : output_join (kind_of (x.spec_at j).how (x.spec_at j).swapped) (x.spec_at j)
      ≡ x.schema_at j
  -- what becomes of a probed row, and what the built side has of its own in the end
  pub each : m.each j
      ≡ probe_share (settings_of (x.spec_at j)) (x.spec_at j).swapped (m.below j)
  pub own : m.own j
      ≡ built_share (settings_of (x.spec_at j)) (x.spec_at j).swapped (m.rows (m.probed j))
      (m.below j)

-- ---- operators

-- an operator that makes of each row what node n makes of it, given rows of another
pub record IsRowOf {H : Type 0} (x : Settings H) (m : Meaning) (given n : ℕ) (o : PhysOperator H) :
    Type 0 where
  pub takes : takes_of o (x.schema_at given)
  pub output : output_of o (x.schema_at given) ≡ x.schema_at n
  pub each : (s : Slot H) → (work_of o (x.schema_at given) s).each ≡ m.each n
  pub asks : (s : Slot H) → (work_of o (x.schema_at given) s).asks ≡ no_key
  pub gains : (s : Slot H) → (work_of o (x.schema_at given) s).gains ≡ no_row
  pub join : m.is_join n ≡ false

-- the place of a join's probe, given rows of its probe side
pub record IsPlaceOf {H : Type 0} (x : Settings H) (m : Meaning) (given n : ℕ) (p : Place) : Type 0 where
  pub node : p.node ≡ n
  pub spec : p.spec ≡ x.spec_at n
  pub probed : given ≡ m.probed n
  pub join : IsJoinOf x m n

abbrev pub IsOperatorOf : {H : Type 0} → Settings H → Meaning → (given n : ℕ) → PhysOperator H → Type 0
IsOperatorOf x m given n (op.Filter o) = IsRowOf x m given n (op.Filter o)
IsOperatorOf x m given n (op.SimpleProjection o) = IsRowOf x m given n (op.SimpleProjection o)
IsOperatorOf x m given n (op.Projection o) = IsRowOf x m given n (op.Projection o)
IsOperatorOf x m given n (op.Hstack o) = IsRowOf x m given n (op.Hstack o)
IsOperatorOf x m given n (op.Function o) = IsRowOf x m given n (op.Function o)
IsOperatorOf x m given n (op.Pass o) = IsRowOf x m given n (op.Pass o)
IsOperatorOf x m given n (op.PlaceHolder p) = IsPlaceOf x m given n p
IsOperatorOf x m given n (op.CallBack o) = ⊥

-- ---- sinks

-- what a sink of these settings ends as, where it is the one of this place
abbrev pub EndsAt : {H : Type 0} → Settings H → Meaning → SinkAt → SinkSetting H → Type 0
EndsAt x m at.Ordered (OrderedBy schema) = IsInOrder x.order (m.below m.ordered)
EndsAt x m at.Ordered (SortedBy s) = ⊥
EndsAt x m at.Ordered (BuiltBy b) = ⊥
EndsAt x m at.Ordered (CrossedBy c) = ⊥
EndsAt x m (at.Sort n) (OrderedBy schema) = ⊥
EndsAt {H = H} x m (at.Sort n) (SortedBy s) =
    (m.is_sort n ≡ true) × (s.schema ≡ x.schema_at n)
    × ((held rows : List Row) → Same held (m.below n) → may_end {H = H} (SortedBy s) held rows
    → rows ≡ m.rows n)
EndsAt x m (at.Sort n) (BuiltBy b) = ⊥
EndsAt x m (at.Sort n) (CrossedBy c) = ⊥
EndsAt x m (at.Build n) (OrderedBy schema) = ⊥
EndsAt x m (at.Build n) (SortedBy s) = ⊥
EndsAt x m (at.Build n) (BuiltBy b) =
    (b.spec ≡ x.spec_at n) × (b.parts ≡ x.parts) × (b.hasher ≡ x.hasher)
    × ((x.spec_at n).how ≡ how.Cross → ⊥) × IsJoinOf x m n
EndsAt x m (at.Build n) (CrossedBy c) =
    (c.schema ≡ built_schema (x.spec_at n)) × ((x.spec_at n).how ≡ how.Cross) × IsJoinOf x m n

-- an empty sink that is the one of a place, given rows of a node
pub record IsSinkOf {H : Type 0} (x : Settings H) (m : Meaning) (given : ℕ) (at : SinkAt)
    (sink : PhysSink H) : Type 0 where
  pub setting : setting_in sink ≡ x.setting_at at
  pub schema : sink_schema sink ≡ x.schema_at given
  pub ends : EndsAt x m at (x.setting_at at)
  pub empty : sink_rows sink ≡ []

-- ---- a leg

-- stages behind node `given`, each given rows of the one before it, up to the sink
abbrev pub AreStagesOf : {H : Type 0} → Settings H → Meaning → (given : ℕ) →
    List (Stage (PhysOperator H)) → (ops : List ℕ) → SinkAt → SinkStage (PhysSink H) → Type 0
AreStagesOf x m given [] [] at b =
    (b.node ≡ given) × IsSinkOf x m given at b.sink
AreStagesOf x m given [] (n ∷ ops) at b = ⊥
AreStagesOf x m given (st ∷ sts) [] at b = ⊥
AreStagesOf x m given (st ∷ sts) (n ∷ ops) at b =
    (st.node ≡ given) × IsOperatorOf x m given n st.operator × AreStagesOf x m n sts ops at b

-- where the root's rows have an order, they are those of this sort, and go through no operator
abbrev pub BeginsInOrder : {H : Type 0} → Meaning → (start : ℕ) → List (Stage (PhysOperator H)) →
    Option (List Row) → Type 0
BeginsInOrder m start stages None = Unit {0}
BeginsInOrder m start stages (Some due) =
    (m.is_sort start ≡ true) × (stages ≡ []) × (m.rows start ≡ due)

abbrev pub KeepsOrder : {H : Type 0} → Settings H → Meaning → (start : ℕ) →
    List (Stage (PhysOperator H)) → SinkAt → Type 0
KeepsOrder x m start stages at.Ordered = BeginsInOrder m start stages x.order
KeepsOrder x m start stages (at.Sort n) = Unit {0}
KeepsOrder x m start stages (at.Build n) = Unit {0}

-- a part is that of a leg that begins at node `start`
pub record StandsFor {H : Type 0} (part : Part H) (x : Settings H) (m : Meaning) (start : ℕ)
    (leg : Leg) : Type 0 where
  pub at : part.at ≡ leg.at
  pub sink : leg.sink ≡ sink_node m.ordered leg.at
  pub stages : AreStagesOf x m start part.stages.items leg.operators part.at part.target
  pub order : KeepsOrder x m start part.stages.items part.at
