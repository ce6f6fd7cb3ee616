-- A leg that runs: its lanes, with what the stages that it hasn't left read.
use Rattle.std.specs.Prelude.{◌≡◌, ℕ, ◌<◌, ◌≤◌, List, [], ◌∷◌, All, length, map}
use Rattle.std.specs.List.{AllByRecursion, flat_map}
use Rattle.pipe_schema.specs.declared.field.Field.{Field}
use Rattle.pipe_ops.specs.declared.sink.Sink.{Ghosts as SinkWords}
use Rattle.pipe_chain.specs.Flags.{SeatMarks}
use Rattle.pipe_chain.specs.Chain.{works_of, IsChain}
use Rattle.pipe_chain.specs.Counts.{AllWithin}
use Rattle.pipe_chain.specs.Flow.{Work, Acts, added}
use Rattle.pipe_chain.specs.declared.operator.Operator.{Ghosts as OperatorWords}
use Rattle.pipe_run.specs.declared.entry.Entry.{Entry}
use Rattle.pipe_run.specs.declared.lane.Lane.{Lane}
use Rattle.pipe_run.specs.declared.stage.SinkStage.{SinkStage}
use Rattle.pipe_run.specs.declared.stage.Stage.{Stage}
use Rattle.pipe_run.specs.Dealt.{AreAlike, DoTheSame, WentAll, works_in, nodes_in, acts_in, counts_in}
use Rattle.pipe_run.specs.Flushes.{rows_of_parts}
use Rattle.pipe_run.specs.Lanes.{lane_operators, held_in, IsCalm, IsFit, IsSet}
use Rattle.pipe_run.specs.Stages.{operators_of, nodes_of}
use Rattle.pipe_run.specs.declared.note.Note.{Note}
use Rattle.pipe_run.specs.Notes.{HasNothing, entries_of_parts}
use Rattle.pipe_run.specs.Noted.{IsNotedSince}
use Rattle.pipe_slots.specs.JoinWords.{parts_in, part_in}
use Rattle.pipe_slots.specs.PhysWords.{takes_of, output_of, flushed_of, text_of, suits_of, seated_of, closed_of, work_of, acts_of, rest_of, ready_of, idle_of, answers_of, is_flushing_of, flush_owed}
use Rattle.pipe_passage.specs.LaneSeats.{sum_of, AllSameActs, AllRest, IsRest}
use Rattle.pipe_slots.specs.SlotTables.{IsClosedAs}
use Rattle.pipe_slots.specs.declared.phys_operator.PhysOperator.{PhysOperator}
use Rattle.pipe_slots.specs.declared.slot.Slot.{Slot}

-- the words of an operator of a plan
abbrev pub phys_words : {H : Type 0} → (hash_of : H → List ℕ → ℕ) →
    OperatorWords (PhysOperator H) (Slot H)
phys_words hash_of = record {
  takes = takes_of;
  output = output_of;
  flushed = flushed_of;
  text = text_of;
  suits = suits_of;
  seated = seated_of;
  closed = λ op slot. closed_of hash_of op slot;
  work = work_of;
  acts = acts_of;
  rest = rest_of;
  ready = ready_of;
  idle = idle_of;
  answers = answers_of;
  flushing = is_flushing_of;
  owed = λ op slot. flush_owed hash_of op slot;
}

-- the schemas that operators in a row give, from one on
abbrev pub schemas_of : {H : Type 0} → List Field → List (PhysOperator H) → List (List Field)
schemas_of from [] = []
schemas_of from (o ∷ os) = output_of o from ∷ schemas_of (output_of o from) os

abbrev pub GivesSchemas : {H K : Type 0} → List Field → List (List Field) →
    Lane (PhysOperator H) K → Type 0
GivesSchemas from schemas lane = schemas_of from (lane_operators lane) ≡ schemas

-- what the seats at each stage did, whoever holds them
abbrev pub acts_now : {H K : Type 0} → (hash_of : H → List ℕ → ℕ) →
    List (Lane (PhysOperator H) K) → (free : List (List SeatMarks)) → List Acts
acts_now hash_of lanes free = added (map sum_of free) (acts_in (phys_words hash_of) lanes)

-- the lanes of a leg between two rounds: rows of a schema come into them, stage by stage they read
-- these slots, these seats are free there, and what they noted is kept elsewhere
pub record IsPassing {H K B C : Type 0} (hash_of : H → List ℕ → ℕ) (sink : SinkWords K B C)
    (limit : ℕ) (from : List Field) (lanes : List (Lane (PhysOperator H) K)) (ss : List (Slot H))
    (free : List (List SeatMarks)) : Type 0 where
  pub some : 0 < length lanes
  pub few : length lanes ≤ 256
  pub alike : AreAlike (phys_words hash_of) from ss lanes
  pub calm : All IsCalm lanes
  pub fit : All (IsFit (phys_words hash_of) sink ss limit from) lanes
  pub within : AllWithin limit (counts_in lanes)
  pub schemas : List (List Field)
  pub gives : All (GivesSchemas from schemas) lanes
  pub rest : AllRest (length lanes) ss free
  pub noted_none : AllByRecursion HasNothing lanes

-- so where rows of some schema come into them
pub record IsUnderWay {H K B C : Type 0} (hash_of : H → List ℕ → ℕ) (sink : SinkWords K B C)
    (limit : ℕ) (lanes : List (Lane (PhysOperator H) K)) (ss : List (Slot H))
    (free : List (List SeatMarks)) : Type 0 where
  pub from : List Field
  pub passing : IsPassing hash_of sink limit from lanes ss free

-- the first slot has fewer partitions than there are numbers
abbrev pub HasFewParts : {H : Type 0} → List (Slot H) → Type 0
HasFewParts [] = Unit {0}
HasFewParts (s ∷ ss) = parts_in s < 4294967295

-- what lanes noted, lane by lane
abbrev pub noted : {O K : Type 0} → Lane O K → List Entry
noted lane = lane.entries.items

-- lanes have left their first stage: what that read, and all seats of its join
pub record HasLeft {H K B C : Type 0} (hash_of : H → List ℕ → ℕ) (sink : SinkWords K B C)
    (limit : ℕ) (from : List Field) (slot : Slot H) (seats : List SeatMarks)
    (old new : List (Lane (PhysOperator H) K)) (ss ss' : List (Slot H))
    (free free' : List (List SeatMarks)) : Type 0 where
  pub next : List Field
  pub passing : IsPassing hash_of sink limit next new ss' free'
  pub shared : ss ≡ slot ∷ ss'
  pub work : Work
  pub works : works_in (phys_words hash_of) from ss old
      ≡ work ∷ works_in (phys_words hash_of) next ss' new
  pub acts : AllSameActs (acts_now hash_of old free) (sum_of seats ∷ acts_now hash_of new free')
  pub all_in : IsRest 0 slot seats
  pub given : ℕ
  pub counts : counts_in old ≡ given ∷ counts_in new
  pub node : ℕ
  pub nodes : nodes_in old ≡ node ∷ nodes_in new
  pub held : flat_map (held_in sink.held) new ≡ flat_map (held_in sink.held) old
  pub entries : map noted new ≡ map noted old
  pub gives : (s : List Field) (later : List (List Field)) →
      All (GivesSchemas from (s ∷ later)) old → (next ≡ s) × All (GivesSchemas next later) new
  pub settings : (z : sink.Setting) → All (IsSet sink.setting z) old → All (IsSet sink.setting z) new
  pub schemas : (z : List Field) → All (IsSet sink.schema z) old → All (IsSet sink.schema z) new

-- lanes that were opened: they have done nothing, and do what these stages do
pub record HasOpened {H K B C : Type 0} (hash_of : H → List ℕ → ℕ) (sink : SinkWords K B C)
    (limit : ℕ) (stages : List (Stage (PhysOperator H))) (target : SinkStage K) (ss : List (Slot H))
    (before after' : List (List SeatMarks)) (lanes : List (Lane (PhysOperator H) K)) : Type 0 where
  pub passing : (from : List Field) →
      IsChain (phys_words hash_of) from (operators_of stages) (sink.schema target.sink) →
      IsPassing hash_of sink limit from lanes ss after'
  pub works : (from : List Field) → works_in (phys_words hash_of) from ss lanes
      ≡ works_of (phys_words hash_of) from (operators_of stages) ss
  pub nodes : nodes_in lanes ≡ nodes_of stages target
  pub acts : AllSameActs (map sum_of before) (acts_now hash_of lanes after')
  pub within : AllWithin 0 (counts_in lanes)
  pub empty : flat_map (held_in sink.held) lanes ≡ []
  pub settings : All (IsSet sink.setting (sink.setting target.sink)) lanes
  pub schemas : All (IsSet sink.schema (sink.schema target.sink)) lanes
  pub gives : All (IsSet sink.gives (sink.gives target.sink)) lanes
  pub noted_none : AllByRecursion HasNothing lanes
  pub gives_all : (from : List Field) →
      All (GivesSchemas from (schemas_of from (operators_of stages))) lanes

-- the last leg has left its first stage: the flags of its join are closed, and what that kept was
-- flushed through the stages behind, which lanes noted
pub record HasSettled {H K B C : Type 0} (hash_of : H → List ℕ → ℕ) (sink : SinkWords K B C)
    (limit : ℕ) (from : List Field) (old new : List (Lane (PhysOperator H) K))
    (ss ss' : List (Slot H)) (free free' : List (List SeatMarks)) (parts : ℕ)
    (notes notes' : List Note) : Type 0 where
  pub slot : Slot H
  pub seats : List SeatMarks
  pub mid : List (Lane (PhysOperator H) K)
  pub left : HasLeft hash_of sink limit from slot seats old mid ss ss' free free'
  pub closed : Slot H
  pub closes : IsClosedAs slot seats closed
  pub same : DoTheSame (phys_words hash_of) sink mid new
  pub passing : IsPassing hash_of sink limit left.next new ss' free'
  pub went : WentAll (phys_words hash_of) sink ss' left.next
      (rows_of_parts parts_in (part_in hash_of) closed) mid new
  pub parts_are : parts ≡ parts_in closed
  pub noted : IsNotedSince (length old) parts (entries_of_parts parts) notes notes'
