-- A pipeline cut at its sinks into legs.
--
-- A worked case. Of two operators that go through the nodes 3 and 4, the first before a sort's sink
-- at 5 and the second behind it before the root's, with the source 1, there are two legs: from 1
-- through 3 into the sink of 5, and from 5 through 4 into the root's sink. The operator at 3 is given
-- rows of 1, the sink of 5 rows of 3, the operator at 4 rows of 5, and the root's sink rows of 4.
use Rattle.std.specs.Prelude.{◌≡◌, ℕ, ◌≤◌, List, [], ◌∷◌, Bool, length, drop, Option, Some, None, if◌then◌else◌}
use Rattle.pipe_driver.specs.declared.branch.SinkAt.{SinkAt}
use Rattle.pipe_driver.specs.declared.branch.SinkAt.TheVariants as at
use Rattle.pipe_driver.specs.Texts.{between}
use Rattle.pipe_convert.specs.Steps.{last_of}
use Rattle.pipe_driver.specs.declared.pipe_line.Leg.{Leg}
use Rattle.pipe_engine.specs.Drives.{Line}
use Rattle.pipe_engine.specs.declared.part.Part.{Part}
use Rattle.pipe_run.specs.declared.stage.Stage.{Stage}
use Rattle.pipe_slots.specs.Sinks.{is_build}
use Rattle.pipe_slots.specs.declared.phys_sink.PhysSink.{PhysSink}
use Rattle.pipe_slots.specs.declared.phys_operator.PhysOperator.{PhysOperator}
use Rattle.pipe_lines.specs.declared.pipe_line.PipeLine.{PipeLine}
use Rattle.pipe_lines.specs.declared.threaded_sink.ThreadedSink.{ThreadedSink}

-- its source, and the legs that run
abbrev pub way_in : {H : Type 0} → PipeLine H → Line H
way_in line = line.way

-- it is made for so many workers
abbrev pub IsLineFor : {H : Type 0} → (workers : ℕ) → PipeLine H → Type 0
IsLineFor workers line = line.workers ≡ workers

-- ---- sinks

-- a sink is made for so many workers
abbrev pub IsMadeFor : {H : Type 0} → (workers : ℕ) → ThreadedSink H → Type 0
IsMadeFor workers sink = sink.workers ≡ workers

-- each sink stands behind the one before, and behind operators that are there
abbrev pub EndWithin : {H : Type 0} → (most first : ℕ) → List (ThreadedSink H) → Type 0
EndWithin most first [] = first ≤ most
EndWithin most first (sink ∷ sinks) =
    (first ≤ sink.operator_end) × EndWithin most sink.operator_end sinks

-- the node of a place, where it has one
abbrev pub place_node : SinkAt → Option ℕ
place_node at.Ordered = None
place_node (at.Sort n) = Some n
place_node (at.Build n) = Some n

-- the place of a sink by its node: that of the root where it has none
abbrev pub place_of : {H : Type 0} → PhysSink H → Option ℕ → SinkAt
place_of sink None = at.Ordered
place_of sink (Some n) = if is_build sink then at.Build n else at.Sort n

-- where the next leg begins
abbrev pub next_of : (start : ℕ) → Option ℕ → ℕ
next_of start None = start
next_of start (Some n) = n

-- ---- legs

-- an operator that is given rows of a node, and hasn't been given any
abbrev pub stage_behind : {H : Type 0} → (node : ℕ) → PhysOperator H → Stage (PhysOperator H)
stage_behind node o = record { operator = o; node = node; given = 0 }

-- operators with the nodes that they are for, behind a node: each is given rows of the one before
abbrev pub stages_of : {H : Type 0} → (start : ℕ) → List (PhysOperator H) → (nodes : List ℕ) →
    List (Stage (PhysOperator H))
stages_of start [] nodes = []
stages_of start (o ∷ os) [] = []
stages_of start (o ∷ os) (n ∷ ns) =
    stage_behind start o ∷ stages_of n os ns

-- a leg from a node, where rows of scans are taken, through the first operators, which are for some
-- nodes, into a sink
pub record IsLegCut {H : Type 0} (operators : List (PhysOperator H)) (nodes : List ℕ) (start : ℕ)
    (taken : List ℕ) (sink : ThreadedSink H) (sink_node : Option ℕ) (leg : Leg (Part H)) :
    Type 0 where
  pub through : leg.operators.items ≡ nodes
  pub at : leg.at ≡ place_of sink.sink sink_node
  pub count : leg.count ≡ sink.count
  pub part_at : leg.part.at ≡ place_of sink.sink sink_node
  pub stages : leg.part.stages.items ≡ stages_of start operators nodes
  pub target : leg.part.target.sink ≡ sink.sink
  pub given : leg.part.target.node ≡ last_of start nodes
  pub scans : leg.part.scans.items ≡ taken

-- legs from so many operators on, the first of which begins at a node: each goes through the
-- operators between two sinks, and behind a sink the next one begins, at the sink's node
abbrev pub AreLegsCut : {H : Type 0} → List (PhysOperator H) → (nodes : List ℕ) → (first start : ℕ) →
    (taken : List ℕ) → List (ThreadedSink H) → List (Option ℕ) → List (Leg (Part H)) → Type 0
AreLegsCut operators nodes first start taken [] places [] = Unit {0}
AreLegsCut operators nodes first start taken [] places (leg ∷ legs) = ⊥
AreLegsCut operators nodes first start taken (sink ∷ sinks) [] legs = ⊥
AreLegsCut operators nodes first start taken (sink ∷ sinks) (place ∷ places) [] = ⊥
AreLegsCut operators nodes first start taken (sink ∷ sinks) (place ∷ places) (leg ∷ legs) =
    IsLegCut (drop first operators) (between nodes first sink.operator_end) start taken sink place leg
    × AreLegsCut operators nodes sink.operator_end (next_of start place) (next_of start place ∷ [])
    sinks places legs
