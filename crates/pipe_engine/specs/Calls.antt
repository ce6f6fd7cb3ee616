-- What lets the engine's calls be made: for some settings and some meaning of a plan.
use Rattle.std.specs.Prelude.{ℕ, List, Option}
use Rattle.std.specs.List.{AllByRecursion}
use Rattle.pipe_frame.specs.Frame.{Table}
use Rattle.pipe_schema.specs.declared.field.Field.{Field}
use Rattle.pipe_chain.specs.Flags.{SeatMarks}
use Rattle.pipe_driver.specs.declared.branch.SinkAt.{SinkAt}
use Rattle.pipe_driver.specs.Meaning.{Meaning}
use Rattle.pipe_source.specs.Supplies.{left_of}
use Rattle.pipe_source.specs.declared.phys_source.PhysSource.{PhysSource}
use Rattle.pipe_run.specs.Rounds.{IsLeftOf}
use Rattle.pipe_driver.specs.Runner.{MayRunLeg, MayLeave, MaySettle, MayEnd, MayFinish}
use Rattle.pipe_run.specs.declared.lane.Lane.{Lane}
use Rattle.pipe_slots.specs.declared.phys_operator.PhysOperator.{PhysOperator}
use Rattle.pipe_slots.specs.declared.slot.Slot.{Slot}
use Rattle.pipe_passage.specs.Passages.{IsPassing}
use Rattle.pipe_slots.specs.SinkWords.{sink_words}
use Rattle.pipe_slots.specs.declared.phys_sink.PhysSink.{PhysSink}
use Rattle.pipe_table.specs.Kept.{BuildRows}
use Rattle.pipe_probe.specs.Cross.{CrossRows}
use Rattle.pipe_engine.specs.Engine.{engine_words}
use Rattle.pipe_engine.specs.Finished.{MayFill, IsBuildOf, IsCrossOf, MayFinishSink}
use Rattle.pipe_engine.specs.Stands.{Settings}
use Rattle.pipe_engine.specs.declared.engine.Engine.{Engine}
use Rattle.pipe_engine.specs.declared.part.Part.{Part}

-- rows of a schema come into lanes, and a source has such rows
pub record MayCarry {H : Type 0} (hash_of : H → List ℕ → ℕ) (limit : ℕ) (source : PhysSource)
    (lanes : List (Lane (PhysOperator H) (PhysSink H))) (ss : List (Slot H))
    (free : List (List SeatMarks)) : Type 0 where
  pub from : List Field
  pub passing : IsPassing hash_of sink_words limit from lanes ss free
  pub schema : AllByRecursion (IsLeftOf from) (left_of source)

pub record MayRun {H : Type 0} (hash_of : H → List ℕ → ℕ) (engine : Engine H) (source : PhysSource)
    (part : Part H) : Type 0 where
  pub x : Settings H
  pub m : Meaning
  pub may : MayRunLeg (engine_words hash_of x) m engine source part

pub record MayLeaveNode {H : Type 0} (hash_of : H → List ℕ → ℕ) (engine : Engine H) (node : ℕ) :
    Type 0 where
  pub x : Settings H
  pub m : Meaning
  pub may : MayLeave (engine_words hash_of x) m engine node

pub record MaySettleNode {H : Type 0} (hash_of : H → List ℕ → ℕ) (engine : Engine H) (node : ℕ) :
    Type 0 where
  pub x : Settings H
  pub m : Meaning
  pub may : MaySettle (engine_words hash_of x) m engine node

pub record MayEndLeg {H : Type 0} (hash_of : H → List ℕ → ℕ) (engine : Engine H) : Type 0 where
  pub x : Settings H
  pub m : Meaning
  pub may : MayEnd (engine_words hash_of x) m engine

pub record MayFinishAt {H : Type 0} (hash_of : H → List ℕ → ℕ) (engine : Engine H) (at : SinkAt) :
    Type 0 where
  pub x : Settings H
  pub m : Meaning
  pub may : MayFinish (engine_words hash_of x) m engine at

-- ---- sinks

pub record MayFinishOne {H : Type 0} (engine : Engine H) (at : SinkAt) (sink : PhysSink H)
    (whole : Option Table) : Type 0 where
  pub x : Settings H
  pub may : MayFinishSink x engine at sink whole

pub record MayFillBuild {H : Type 0} (engine : Engine H) (n : ℕ) (b : BuildRows H) : Type 0 where
  pub x : Settings H
  pub fill : MayFill x engine n
  pub is : IsBuildOf x n b

pub record MayFillCross {H : Type 0} (engine : Engine H) (n : ℕ) (c : CrossRows) : Type 0 where
  pub x : Settings H
  pub fill : MayFill x engine n
  pub is : IsCrossOf x n c
