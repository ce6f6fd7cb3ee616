-- What the engine has, where a plan means this and these rows came to its places.
use Rattle.std.specs.Prelude.{◌≡◌, ℕ, suc, ◌+◌, ◌^◌, ◌<◌, ◌≤◌, List, [], ◌∷◌, ◌++◌, true, false, ◌==◌, if◌then◌else◌, Option, Some, None, All, length, map, slice_index_or}
use Rattle.std.specs.List.{flat_map, AllByRecursion}
use Rattle.pipe_frame.specs.Frame.{Table}
use Rattle.pipe_schema.specs.Rows.{Row, Same}
use Rattle.pipe_schema.specs.declared.field.Field.{Field}
use Rattle.pipe_schema.proofs.Weights.{SameBag}
use Rattle.pipe_ops.specs.Batches.{Left}
use Rattle.pipe_ops.specs.declared.context.PExecutionContext.{PExecutionContext}
use Rattle.pipe_source.specs.Supplies.{left_of}
use Rattle.pipe_source.specs.declared.phys_source.PhysSource.{PhysSource}
use Rattle.pipe_source.specs.declared.phys_source.PhysSource.TheVariants as sources
use Rattle.pipe_driver.specs.declared.branch.SinkAt.{SinkAt}
use Rattle.pipe_driver.specs.declared.branch.SinkAt.TheVariants as at
use Rattle.pipe_driver.specs.Meaning.{Meaning, OutOf, Into}
use Rattle.pipe_driver.specs.Legs.{sink_node}
use Rattle.pipe_driver.specs.Ways as ways
use Rattle.pipe_driver.specs.Ways.{occurs, IsSoundMeaning}
use Rattle.pipe_driver.specs.State.{World, Waits, Has}
use Rattle.pipe_driver.specs.State as state
use Rattle.pipe_driver.specs.Tables.{number_at}
use Rattle.pipe_driver.specs.Within.{GoThroughRun}
use Rattle.pipe_driver.specs.Words.{RunnerWords}
use Rattle.pipe_table.specs.KeysOfRows.{AreTypedKeys}
use Rattle.pipe_table.specs.Spec.{built_schema, built_on}
use Rattle.pipe_table.specs.Table.{TableRows}
use Rattle.pipe_table.specs.declared.spec.JoinSpec.{JoinSpec}
use Rattle.pipe_chain.specs.Keys.{SameKeys}
use Rattle.pipe_chain.specs.Flow.{Work, Acts}
use Rattle.pipe_chain.specs.Unmarking.{no_key, no_row}
use Rattle.pipe_run.specs.Dealt.{works_in, nodes_in, counts_in}
use Rattle.pipe_run.specs.Lanes.{IsSet, held_in}
use Rattle.pipe_slots.specs.Kinds.{kind_of}
use Rattle.pipe_slots.specs.JoinWords.{suits_join, work_join}
use Rattle.pipe_run.specs.Rounds.{left_rows}
use Rattle.pipe_passage.specs.LaneSeats.{sum_of, IsRest, HasSeats}
use Rattle.pipe_slots.specs.SlotTables.{slot_at, seats_at}
use Rattle.pipe_passage.specs.Passages.{phys_words, acts_now, IsPassing, GivesSchemas}
use Rattle.pipe_slots.specs.declared.slot.Slot.{Slot}
use Rattle.pipe_slots.specs.declared.slot.Slot.TheVariants as slot
use Rattle.pipe_passage.specs.declared.passage.Passage.{Passage}
use Rattle.pipe_driver.specs.Along.{counted_at}
use Rattle.pipe_slots.specs.Sinks.{OrderedBy, setting_in, sink_rows}
use Rattle.pipe_slots.specs.SinkWords.{sink_words}
use Rattle.pipe_engine.specs.Stands.{Settings, IsInOrder, IsJoinOf, EndsAt, StandsFor}
use Rattle.pipe_engine.specs.declared.engine.Engine.{Engine}
use Rattle.pipe_engine.specs.declared.engine.FedSink.{FedSink}
use Rattle.pipe_engine.specs.declared.engine.OpenLeg.{OpenLeg}
use Rattle.pipe_engine.specs.declared.part.Part.{Part}
use Rattle.pipe_slots.specs.declared.phys_sink.PhysSink.{PhysSink}

-- ---- sources

abbrev pub HasSchemaLeft : List Field → Left → Type 0
HasSchemaLeft schema left = left.schema ≡ schema

-- no row of a frame is out
abbrev pub IsFresh : Left → Type 0
IsFresh left = left.from ≡ 0

-- a source is a frame of these rows, in their order
abbrev pub IsFrameOf : List Row → PhysSource → Type 0
IsFrameOf rows (sources.Frame left) = left.rows ≡ rows
IsFrameOf rows (sources.Union supply) = ⊥
IsFrameOf rows (sources.ReProject supply) = ⊥

-- a source has the rows of a node, under its schema; that of a sort is a frame, in the sort's order
pub record Brings {H : Type 0} (source : PhysSource) (x : Settings H) (m : Meaning) (n : ℕ) : Type 0 where
  pub rows : SameBag (left_rows (left_of source)) (m.rows n)
  pub schema : AllByRecursion (HasSchemaLeft (x.schema_at n)) (left_of source)
  pub some : left_of source ≡ [] → ⊥
  pub few : length (left_rows (left_of source)) < 2 ^ 62
  pub fresh : AllByRecursion IsFresh (left_of source)
  pub order : m.is_sort n ≡ true → IsFrameOf (m.rows n) source
  pub run : GoThroughRun m → m.is_run n ≡ true

-- ---- slots

-- the rows of what stands in a slot
abbrev pub rows_in : {H : Type 0} → Slot H → List Row
rows_in slot.Empty = []
rows_in (slot.Keys t) = t.rows
rows_in (slot.Rows f) = f.rows
rows_in (slot.Full t) = t.table.rows
rows_in slot.Spent = []

-- what a join's probe does there
abbrev pub join_work : {H : Type 0} → Settings H → ℕ → Slot H → Work
join_work x j s = work_join (kind_of (x.spec_at j).how (x.spec_at j).swapped) (x.spec_at j) s

-- no rows came to a join that isn't built
pub record IsBare (m : Meaning) (w : World) (j : ℕ) : Type 0 where
  pub waits : w.slot j ≡ Waits
  pub there : m.is_join j ≡ true → SameBag [] (w.there (OutOf (m.probed j)))
  pub gained : SameBag [] (w.gained j)

-- the table of a join that keeps rows of its built side: its partitions, and keys of their types
pub record IsFullTable {H : Type 0} (x : Settings H) (table : TableRows H) : Type 0 where
  pub parts : table.parts ≡ x.parts
  pub typed : AreTypedKeys (built_schema table.spec) (built_on table.spec) table.rows

abbrev pub IsWellBuilt : {H : Type 0} → Settings H → Slot H → Type 0
IsWellBuilt x slot.Empty = Unit {0}
IsWellBuilt x (slot.Keys t) = Unit {0}
IsWellBuilt x (slot.Rows f) = Unit {0}
IsWellBuilt x (slot.Full t) = IsFullTable x t.table
IsWellBuilt x slot.Spent = Unit {0}

-- a join has its table; the keys that are marked in it are those asked for by the rows that came, and
-- the rows that were given for keys are those of the keys that were won
pub record IsTabled {H : Type 0} (x : Settings H) (m : Meaning) (w : World) (j : ℕ) (s : Slot H)
    (acts : Acts) : Type 0 where
  pub join : IsJoinOf x m j
  pub suits : suits_join (kind_of (x.spec_at j).how (x.spec_at j).swapped) (x.spec_at j) s
  pub built : IsWellBuilt x s
  pub has : w.slot j ≡ Has (rows_in s)
  pub rows : SameBag (rows_in s) (m.below j)
  pub marked : SameKeys acts.marked
      (flat_map (join_work x j s).asks (w.there (OutOf (m.probed j))))
  pub gained : SameBag (w.gained j) (flat_map (join_work x j s).gains acts.won)

abbrev pub SlotFits : {H : Type 0} → Settings H → Meaning → World → ℕ → Slot H → Acts → Type 0
SlotFits x m w j slot.Empty acts = IsBare m w j
SlotFits x m w j (slot.Keys t) acts = IsTabled x m w j (slot.Keys t) acts
SlotFits x m w j (slot.Rows f) acts = IsTabled x m w j (slot.Rows f) acts
SlotFits x m w j (slot.Full t) acts = IsTabled x m w j (slot.Full t) acts
SlotFits x m w j slot.Spent acts = (m.is_join j ≡ true) × (w.slot j ≡ state.Spent)

-- ---- the leg that runs

-- a stage that goes row by row
pub record IsRowStage (m : Meaning) (w : World) (n : ℕ) (work : Work) : Type 0 where
  pub join : m.is_join n ≡ false
  pub each : work.each ≡ m.each n
  pub asks : work.asks ≡ no_key
  pub gains : work.gains ≡ no_row
  pub bare : IsBare m w n

-- the probe of a join
pub record IsJoinStage {H : Type 0} (x : Settings H) (m : Meaning) (w : World) (given n : ℕ)
    (work : Work) (s : Slot H) (acts : Acts) : Type 0 where
  pub join : m.is_join n ≡ true
  pub probed : given ≡ m.probed n
  pub work_is : work ≡ join_work x n s
  pub table : IsTabled x m w n s acts

-- which it is, is told by the node
abbrev pub StageFits : {H : Type 0} → Settings H → Meaning → World → (given n : ℕ) → Work → Slot H →
    Acts → Type 0
StageFits x m w given n work s acts =
    (m.is_join n ≡ false → IsRowStage m w n work × (s ≡ slot.Empty))
    × (m.is_join n ≡ true → IsJoinStage x m w given n work s acts)

-- stages behind node `given`, in order
abbrev pub StagesFit : {H : Type 0} → Settings H → Meaning → World → (given : ℕ) → List ℕ →
    List Work → List (Slot H) → List Acts → Type 0
StagesFit x m w given [] [] [] [] = Unit {0}
StagesFit x m w given [] [] [] (a ∷ acts) = ⊥
StagesFit x m w given [] [] (s ∷ ss) acts = ⊥
StagesFit x m w given [] (k ∷ works) ss acts = ⊥
StagesFit x m w given (n ∷ ops) [] ss acts = ⊥
StagesFit x m w given (n ∷ ops) (k ∷ works) [] acts = ⊥
StagesFit x m w given (n ∷ ops) (k ∷ works) (s ∷ ss) [] = ⊥
StagesFit x m w given (n ∷ ops) (k ∷ works) (s ∷ ss) (a ∷ acts) =
    StageFits x m w given n k s a × StagesFit x m w n ops works ss acts

-- the works of a leg's stages, and the rows that its lanes hold
abbrev pub works_of_leg : {H : Type 0} → (hash_of : H → List ℕ → ℕ) → List Field →
    Passage H (PhysSink H) → List Work
works_of_leg hash_of from p = works_in (phys_words hash_of) from p.shared.items p.lanes.items

abbrev pub rows_of_leg : {H : Type 0} → Passage H (PhysSink H) → List Row
rows_of_leg p = flat_map (held_in sink_rows) p.lanes.items

-- the nodes that it hasn't left: its stages are given rows of those before them, and last its sinks
abbrev pub behind : List ℕ → List ℕ
behind [] = []
behind (n ∷ ns) = ns

abbrev pub nodes_of_leg : {H : Type 0} → Passage H (PhysSink H) → List ℕ
nodes_of_leg p = behind (nodes_in p.lanes.items)

-- ---- rows that came as a frame

abbrev pub whole_rows : Option Table → List Row
whole_rows None = []
whole_rows (Some frame) = frame.rows

-- it has the schema of the root's sink
abbrev pub IsOfRoot : {H : Type 0} → Settings H → Option Table → Type 0
IsOfRoot x None = Unit {0}
IsOfRoot x (Some frame) = x.setting_at at.Ordered ≡ OrderedBy frame.schema

-- only to the root's sink rows come as a frame: in the root's order, where that has one
abbrev pub IsWholeAt : {H : Type 0} → Settings H → SinkAt → Option Table → Type 0
IsWholeAt x at.Ordered whole = IsOfRoot x whole × IsInOrder x.order (whole_rows whole)
IsWholeAt x (at.Sort n) whole = whole ≡ None
IsWholeAt x (at.Build n) whole = whole ≡ None

-- a leg's frame has the rows that its lanes hold, and went through no operator
abbrev pub IsWhole : (above : List ℕ) → (held : List Row) → Option Table → Type 0
IsWhole above held None = Unit {0}
IsWhole above held (Some frame) = (above ≡ []) × SameBag frame.rows held

-- the leg that runs
pub record LegFits {H : Type 0} (hash_of : H → List ℕ → ℕ) (x : Settings H) (m : Meaning)
    (w : World) (context : PExecutionContext) (leg : OpenLeg H) : Type 0 where
  -- the node whose rows the first stage is given, and the chain behind it
  pub given : ℕ
  pub nodes : nodes_in leg.passage.lanes.items ≡ given ∷ m.above given
  pub run : GoThroughRun m → m.is_run given ≡ true
  pub above_sink : m.above_sink given ≡ sink_node m.ordered leg.at
  pub passing : IsPassing hash_of sink_words context.row_limit (x.schema_at given)
      leg.passage.lanes.items
      leg.passage.shared.items leg.passage.seats.items
  pub gives : All (GivesSchemas (x.schema_at given) (map x.schema_at (m.above given)))
      leg.passage.lanes.items
  pub stages : StagesFit x m w given (m.above given)
      (works_of_leg hash_of (x.schema_at given) leg.passage) leg.passage.shared.items
      (acts_now hash_of leg.passage.lanes.items leg.passage.seats.items)
  pub enough : AllByRecursion (HasSeats context.workers) leg.passage.shared.items
  -- its sink, which holds nothing, and those of its lanes
  pub setting : setting_in leg.sink ≡ x.setting_at leg.at
  pub lanes : All (IsSet setting_in (x.setting_at leg.at)) leg.passage.lanes.items
  pub ends : EndsAt x m leg.at (x.setting_at leg.at)
  pub empty : sink_rows leg.sink ≡ []
  pub whole : IsWhole (m.above given) (rows_of_leg leg.passage) leg.whole
  pub place : IsWholeAt x leg.at leg.whole
  pub few : length leg.passage.lanes.items ≤ context.workers

-- ---- all of it

-- the nodes that a leg has before it, and the rows that it holds for a sink
abbrev pub nodes_before : {H : Type 0} → Option (OpenLeg H) → List ℕ
nodes_before None = []
nodes_before (Some leg) = nodes_of_leg leg.passage

abbrev pub rows_for : {H : Type 0} → Meaning → Option (OpenLeg H) → ℕ → List Row
rows_for m None s = []
rows_for m (Some leg) s =
    if s == sink_node m.ordered leg.at then rows_of_leg leg.passage else []

abbrev pub LegFitsOrNone : {H : Type 0} → (hash_of : H → List ℕ → ℕ) → Settings H → Meaning →
    World → PExecutionContext → Option (OpenLeg H) → Type 0
LegFitsOrNone hash_of x m w context None = Unit {0}
LegFitsOrNone hash_of x m w context (Some leg) = LegFits hash_of x m w context leg

-- what was fed into a sink
abbrev pub sink_at : {H : Type 0} → List (Option (FedSink H)) → ℕ → Option (FedSink H)
sink_at sinks s = slice_index_or sinks s None

abbrev pub fed_rows : {H : Type 0} → FedSink H → List Row
fed_rows fed = sink_rows fed.sink ++ whole_rows fed.whole

abbrev pub rows_of_sink : {H : Type 0} → Option (FedSink H) → List Row
rows_of_sink None = []
rows_of_sink (Some fed) = fed_rows fed

-- the sink that was fed, or an empty one
abbrev pub fed_or_new : {H : Type 0} → Option (FedSink H) → PhysSink H → FedSink H
fed_or_new None sink = record { sink = sink; rows = 0; whole = None }
fed_or_new (Some fed) sink = fed

-- a sink that was fed is that of its place, and its rows were counted
abbrev pub IsKeptAt : {H : Type 0} → Settings H → Meaning → (limit : ℕ) → SinkAt →
    Option (FedSink H) → Type 0
IsKeptAt x m limit at None = Unit {0}
IsKeptAt x m limit at (Some fed) =
    (setting_in fed.sink ≡ x.setting_at at) × EndsAt x m at (x.setting_at at)
    × (length (fed_rows fed) ≤ fed.rows) × (fed.rows ≤ limit) × IsWholeAt x at fed.whole

-- how many rows of a node the leg that runs has counted
abbrev pub given_in : {H : Type 0} → Option (OpenLeg H) → ℕ → ℕ
given_in None n = 0
given_in (Some leg) n =
    counted_at n (nodes_in leg.passage.lanes.items) (counts_in leg.passage.lanes.items)

-- each row that came out of a node is counted, by the leg that runs or by one before it, and what
-- those counted is within the limit
pub record AreCounted {H : Type 0} (given : List ℕ) (leg : Option (OpenLeg H)) (limit : ℕ)
    (w : World) : Type 0 where
  pub came : (n : ℕ) → n < length given →
      length (w.there (OutOf n)) ≡ number_at given n + given_in leg n
  pub within : (n : ℕ) → number_at given n ≤ limit

-- so many rows more are counted at a node
pub record IsAdded (node rows limit : ℕ) (old new : List ℕ) : Type 0 where
  pub all : (k : ℕ) → k < length old →
      number_at new k ≡ number_at old k + (if node == k then rows else 0)
  pub long : length new ≡ length old
  pub within : (k : ℕ) → number_at new k ≤ limit

pub record Fits {H : Type 0} (hash_of : H → List ℕ → ℕ) (engine : Engine H) (x : Settings H)
    (m : Meaning) (w : World) : Type 0 where
  pub sound : IsSoundMeaning m
  pub parts : engine.parts ≡ x.parts
  pub some : 0 < x.parts
  pub few : x.parts < 4294967295
  pub ordered : engine.nodes ≡ m.ordered
  pub nodes : length engine.slots.slots.items ≡ m.ordered
  pub seated : length engine.slots.seats.items ≡ m.ordered
  pub workers : engine.slots.workers ≡ engine.context.workers
  pub places : length engine.sinks.items ≡ suc m.ordered
  -- what came out of a node
  pub given : length engine.given.items ≡ m.ordered
  pub counted : AreCounted engine.given.items engine.leg engine.context.row_limit w
  -- what came into a sink
  pub sinks : (s : ℕ) →
      SameBag (w.there (Into s)) (rows_of_sink (sink_at engine.sinks.items s) ++ rows_for m engine.leg s)
  pub kept : (at : SinkAt) → ways.IsSinkOf m (sink_node m.ordered at) at →
      IsKeptAt x m engine.context.row_limit at
      (sink_at engine.sinks.items (sink_node m.ordered at))
  -- the slots that the leg hasn't taken
  pub slots : (j : ℕ) → occurs j (nodes_before engine.leg) ≡ 0 →
      SlotFits x m w j (slot_at engine.slots.slots.items j)
      (sum_of (seats_at engine.slots.seats.items j))
  pub rest : (j : ℕ) → IsRest 0 (slot_at engine.slots.slots.items j)
      (seats_at engine.slots.seats.items j)
  pub enough : (j : ℕ) → HasSeats engine.context.workers (slot_at engine.slots.slots.items j)
  pub taken : (j : ℕ) → 0 < occurs j (nodes_before engine.leg) →
      slot_at engine.slots.slots.items j ≡ slot.Empty
  pub leg : LegFitsOrNone hash_of x m w engine.context engine.leg

-- ---- what the driver knows of it

abbrev pub IsBefore : {H : Type 0} → Option (OpenLeg H) → List ℕ → SinkAt → Type 0
IsBefore None now at = ⊥
IsBefore (Some leg) now at = (nodes_of_leg leg.passage ≡ now) × (leg.at ≡ at)

abbrev pub IsIdle : {H : Type 0} → Engine H → Type 0
IsIdle engine = engine.leg ≡ None

-- a sink that was fed
abbrev pub IsThere : {H : Type 0} → List (Option (FedSink H)) → ℕ → Type 0
IsThere sinks s = sink_at sinks s ≡ None → ⊥

abbrev pub Holds : {H : Type 0} → Engine H → SinkAt → Type 0
Holds engine at = IsThere engine.sinks.items (sink_node engine.nodes at)

-- what was fed stands as it did, but for one sink; and that is no more there
abbrev pub OthersStay : {H : Type 0} → ℕ → (old new : List (Option (FedSink H))) → Type 0
OthersStay s old new = (t : ℕ) → (t == s) ≡ false → sink_at new t ≡ sink_at old t

abbrev pub IsEmptied : {H : Type 0} → ℕ → (old new : List (Option (FedSink H))) → Type 0
IsEmptied s old new = (t : ℕ) → sink_at new t ≡ (if t == s then None else sink_at old t)

-- the leg that ends feeds its sink alone
abbrev pub FeedsAlone : {H : Type 0} → (old new : Engine H) → Type 0
FeedsAlone old new =
    (at : SinkAt) → IsBefore old.leg [] at →
    OthersStay (sink_node old.nodes at) old.sinks.items new.sinks.items

-- no sink was fed that isn't finished
abbrev pub NoneOpen : {H : Type 0} → Engine H → Type 0
NoneOpen engine = (s : ℕ) → sink_at engine.sinks.items s ≡ None

abbrev pub brings_of : {H : Type 0} → Settings H → PhysSource → Meaning → ℕ → Type 0
brings_of x source = Brings source x

abbrev pub engine_words : {H : Type 0} → (hash_of : H → List ℕ → ℕ) → Settings H →
    RunnerWords (Engine H) PhysSource (Part H)
engine_words hash_of x = record {
  brings = brings_of x;
  stands = λ part. StandsFor part x;
  fits = λ engine. Fits hash_of engine x;
  before = λ engine. IsBefore engine.leg;
  idle = IsIdle;
  holds = Holds;
}
