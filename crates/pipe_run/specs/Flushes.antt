-- Lanes that flush what an operator keeps: the operator is taken off their stages.
use Rattle.std.specs.Prelude.{◌≡◌, ℕ, ◌<◌, List, [], ◌∷◌, ◌++◌, length}
use Rattle.std.specs.List.{flat_map, range_with_len}
use Rattle.pipe_schema.specs.Rows.{Row}
use Rattle.pipe_schema.specs.declared.field.Field.{Field}
use Rattle.pipe_ops.specs.declared.sink.Sink.{Ghosts as SinkWords}
use Rattle.pipe_chain.specs.declared.operator.Operator.{Ghosts as OperatorWords}
use Rattle.pipe_run.specs.declared.lane.Lane.{Lane}
use Rattle.pipe_run.specs.declared.stage.Stage.{Stage}
use Rattle.pipe_run.specs.Lanes.{IsCalm, IsFit}

-- the schema of what the last operator that was taken off gives
abbrev pub flushed_at : {O S : Type 0} → OperatorWords O S → List (Stage O) → List Field
flushed_at op [] = []
flushed_at op (st ∷ []) = op.flushed st.operator
flushed_at op (st ∷ next ∷ sts) = flushed_at op (next ∷ sts)

abbrev pub flushed_by : {O S K : Type 0} → OperatorWords O S → Lane O K → List Field
flushed_by op lane = flushed_at op lane.flushers.items

abbrev pub flushed_in : {O S K : Type 0} → OperatorWords O S → List (Lane O K) → List Field
flushed_in op [] = []
flushed_in op (x ∷ lanes) = flushed_by op x

-- an operator may flush: no chunk marks its shared value any more, and it has begun nothing, unless
-- something was refused
pub record IsFlusher {O S : Type 0} (op : OperatorWords O S) (s : S) (from : List Field)
    (Calm : Type 0) (o : O) : Type 0 where
  pub closed : op.closed o s
  pub from_is : op.flushed o ≡ from
  pub idle : Calm → op.idle o

abbrev pub HasFlusher : {O S : Type 0} → OperatorWords O S → S → List Field → (Calm : Type 0) →
    List (Stage O) → Type 0
HasFlusher op s from Calm [] = ⊥
HasFlusher op s from Calm (st ∷ []) = IsFlusher op s from Calm st.operator
HasFlusher op s from Calm (st ∷ next ∷ sts) = HasFlusher op s from Calm (next ∷ sts)

-- a lane between two partitions
pub record IsFlushFit {O S K B C : Type 0} (op : OperatorWords O S) (sink : SinkWords K B C)
    (s : S) (ss : List S) (limit : ℕ) (from : List Field) (lane : Lane O K) : Type 0 where
  pub fit : IsFit op sink ss limit from lane
  pub flusher : HasFlusher op s from (IsCalm lane) lane.flushers.items

-- with the schema of what its own operator gives
abbrev pub IsOwnFit : {O S K B C : Type 0} → OperatorWords O S → SinkWords K B C → S → List S → ℕ →
    Lane O K → Type 0
IsOwnFit op sink s ss limit lane = IsFlushFit op sink s ss limit (flushed_by op lane) lane

-- the rows of all partitions
abbrev pub rows_of_parts : {S : Type 0} → (parts : S → ℕ) → (part_of : S → ℕ → List Row) → S → List Row
rows_of_parts parts part_of s = flat_map (part_of s) (range_with_len 0 (parts s))

-- the first stage of a lane was taken off
pub record IsPopped {O K : Type 0} (stage : Stage O) (old new : Lane O K) : Type 0 where
  pub stages : old.stages.items ≡ stage ∷ new.stages.items
  pub flushers : new.flushers.items ≡ old.flushers.items
  pub target : new.target ≡ old.target
  pub seat : new.seat ≡ old.seat
  pub entries : new.entries.items ≡ old.entries.items
  pub refused : new.refused ≡ old.refused

-- its operator is to be flushed
pub record IsTakenOff {O K : Type 0} (old new : Lane O K) : Type 0 where
  pub stage : Stage O
  pub stages : old.stages.items ≡ stage ∷ new.stages.items
  pub flushers : new.flushers.items ≡ old.flushers.items ++ stage ∷ []
  pub target : new.target ≡ old.target
  pub seat : new.seat ≡ old.seat
  pub entries : new.entries.items ≡ old.entries.items
  pub refused : new.refused ≡ old.refused

-- a lane has an operator
abbrev pub HasStage : {O K : Type 0} → Lane O K → Type 0
HasStage lane = 0 < length lane.stages.items

abbrev pub AllTakenOff : {O K : Type 0} → (old new : List (Lane O K)) → Type 0
AllTakenOff [] [] = Unit {0}
AllTakenOff [] (y ∷ new) = ⊥
AllTakenOff (x ∷ old) [] = ⊥
AllTakenOff (x ∷ old) (y ∷ new) = IsTakenOff x y × AllTakenOff old new
