-- Lanes: what holds of one between two chunks, and what it did with some rows.
use Rattle.std.specs.Prelude.{◌≡◌, ℕ, ◌≤◌, List, length, Option, Some, None}
use Rattle.std.specs.List.{AllByRecursion}
use Rattle.pipe_schema.specs.Rows.{Row}
use Rattle.pipe_schema.specs.declared.field.Field.{Field}
use Rattle.pipe_ops.specs.declared.sink.Sink.{Ghosts as SinkWords}
use Rattle.pipe_chain.specs.Flow.{Work, Acts}
use Rattle.pipe_chain.specs.Chain.{works_of, acts_of, IsChain, AllServe, SameWork}
use Rattle.pipe_chain.specs.Counts.{AllWithin, Went}
use Rattle.pipe_chain.specs.declared.operator.Operator.{Ghosts as OperatorWords}
use Rattle.pipe_run.specs.Stages.{operators_of, nodes_of, counts, IsOver}
use Rattle.pipe_run.specs.declared.stage.LaneFault.{LaneFault}
use Rattle.pipe_run.specs.declared.lane.Lane.{Lane}

-- a lane's operators
abbrev pub lane_operators : {O K : Type 0} → Lane O K → List O
lane_operators lane = operators_of lane.stages.items

-- what they do, from a schema on, and what their seats did
abbrev pub lane_works : {O K S : Type 0} → OperatorWords O S → List Field → List S → Lane O K →
    List Work
lane_works op schema ss lane = works_of op schema (lane_operators lane) ss

abbrev pub lane_acts : {O K S : Type 0} → OperatorWords O S → Lane O K → List Acts
lane_acts op lane = acts_of op (lane_operators lane)

-- how many rows each of a lane's nodes was given, and which nodes they are
abbrev pub lane_counts : {O K : Type 0} → Lane O K → List ℕ
lane_counts lane = counts lane.stages.items lane.target

abbrev pub lane_nodes : {O K : Type 0} → Lane O K → List ℕ
lane_nodes lane = nodes_of lane.stages.items lane.target

-- what a lane's sink holds
abbrev pub held_in : {O K : Type 0} → (K → List Row) → Lane O K → List Row
held_in held lane = held lane.target.sink

-- a lane whose sink has this setting
abbrev pub IsSet : {O K Setting : Type 0} → (K → Setting) → Setting → Lane O K → Type 0
IsSet setting is lane = setting lane.target.sink ≡ is

-- a lane that was refused nothing
abbrev pub IsCalm : {O K : Type 0} → Lane O K → Type 0
IsCalm lane = lane.refused ≡ None

-- a lane between two chunks
pub record IsFit {O S K B C : Type 0} (op : OperatorWords O S) (sink : SinkWords K B C)
    (ss : List S) (limit : ℕ) (from : List Field) (lane : Lane O K) : Type 0 where
  pub serve : AllServe op (lane_operators lane) ss
  pub chain : IsChain op from (lane_operators lane) (sink.schema lane.target.sink)
  pub still : IsCalm lane → AllByRecursion op.idle (lane_operators lane)
  pub within : IsCalm lane → AllWithin limit (lane_counts lane)
  pub room : IsCalm lane → length (sink.held lane.target.sink) ≤ lane.target.given

-- a lane does the same work as another, into a sink of the same settings
pub record SameLane {O S K B C : Type 0} (op : OperatorWords O S) (sink : SinkWords K B C)
    (old new : Lane O K) : Type 0 where
  pub work : SameWork op (lane_operators old) (lane_operators new)
  pub nodes : lane_nodes new ≡ lane_nodes old
  pub setting : sink.setting new.target.sink ≡ sink.setting old.target.sink
  pub schema : sink.schema new.target.sink ≡ sink.schema old.target.sink
  pub gives : sink.gives new.target.sink ≡ sink.gives old.target.sink

-- why a lane stopped
abbrev pub Stopped : ℕ → List Work → (old new : List Acts) → (before nodes : List ℕ) → List Row →
    Option LaneFault → Type 0
Stopped limit ws old new before nodes rows None = Unit {0}
Stopped limit ws old new before nodes rows (Some r) = IsOver limit ws old new before nodes rows r

-- a lane pushed some rows of a schema, unless something was refused
pub record Ran {O S K B C : Type 0} (op : OperatorWords O S) (sink : SinkWords K B C)
    (ss : List S) (limit : ℕ) (from : List Field) (rows : List Row) (old new : Lane O K) :
    Type 0 where
  pub same : SameLane op sink old new
  pub went : IsCalm new →
      Went (lane_works op from ss old) (lane_acts op old) (lane_acts op new)
      (lane_counts old) (lane_counts new) rows
      (sink.held old.target.sink) (sink.held new.target.sink)
  pub stopped : IsCalm old →
      Stopped limit (lane_works op from ss old) (lane_acts op old) (lane_acts op new)
      (lane_counts old) (lane_nodes old) rows new.refused
  pub kept : IsCalm new → IsCalm old
