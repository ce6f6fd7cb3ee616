-- Lanes of a leg on whose way something was refused, and what is known of their joins' keys where a run ends.
use Rattle.std.specs.Prelude.{◌≡◌, ℕ, ◌<◌, List, [], ◌∷◌, All, true, Option, length, map}
use Rattle.pipe_schema.specs.declared.field.Field.{Field}
use Rattle.pipe_ops.specs.declared.sink.Sink.{Ghosts as SinkWords}
use Rattle.pipe_table.specs.Table.{TableRows, table_keys}
use Rattle.pipe_chain.specs.Flags.{SeatMarks, is_marked, winners}
use Rattle.pipe_chain.specs.Sums.{times}
use Rattle.pipe_chain.specs.Chain.{AllServe}
use Rattle.pipe_chain.specs.Flow.{Acts}
use Rattle.pipe_chain.specs.Keys.{SameKeys}
use Rattle.pipe_outer.specs.Marking.{won_key}
use Rattle.pipe_run.specs.declared.lane.Lane.{Lane}
use Rattle.pipe_run.specs.declared.stage.LaneFault.{LaneFault}
use Rattle.pipe_run.specs.declared.stage.LaneFault.TheVariants.{TooMany, Memory}
use Rattle.pipe_run.specs.Dealt.{DoTheSame, IsOverIn}
use Rattle.pipe_run.specs.Flushes.{rows_of_parts}
use Rattle.pipe_run.specs.Lanes.{lane_operators}
use Rattle.pipe_slots.specs.JoinWords.{parts_in, part_in}
use Rattle.pipe_slots.specs.SlotTables.{IsClosedAs}
use Rattle.pipe_slots.specs.declared.phys_operator.PhysOperator.{PhysOperator}
use Rattle.pipe_slots.specs.declared.slot.Slot.{Slot}
use Rattle.pipe_slots.specs.declared.slot.Slot.TheVariants.{Empty, Keys, Rows, Full, Spent}
use Rattle.pipe_passage.specs.LaneSeats.{AllRest}
use Rattle.pipe_passage.specs.Passages.{phys_words, HasLeft}

-- ---- lanes that hold their seats, whatever was refused

-- a lane's operators were made for what they read, and hold seats where that has flags
abbrev pub Serves : {H K : Type 0} → (hash_of : H → List ℕ → ℕ) → List (Slot H) →
    Lane (PhysOperator H) K → Type 0
Serves hash_of ss lane = AllServe (phys_words hash_of) (lane_operators lane) ss

-- with those that are free, lanes hold all seats of what they read
pub record HoldSeats {H K : Type 0} (hash_of : H → List ℕ → ℕ)
    (lanes : List (Lane (PhysOperator H) K)) (ss : List (Slot H)) (free : List (List SeatMarks)) :
    Type 0 where
  pub some : 0 < length lanes
  pub serve : All (Serves hash_of ss) lanes
  pub rest : AllRest (length lanes) ss free

-- ---- keys that were won

-- of each key flags tell whether it was marked, and each that was is won once
pub record WonOnce {H : Type 0} (table : TableRows H) (acts : Acts) : Type 0 where
  pub flags : List (Option ℕ)
  pub stand : (key : ℕ) → 0 < times key acts.marked → is_marked flags key ≡ true
  pub only : (key : ℕ) → is_marked flags key ≡ true → 0 < times key acts.marked
  pub long : length flags ≡ length (table_keys table)
  pub once : SameKeys acts.won (map won_key (winners flags))

-- so it is where a join's table has flags
abbrev pub IsOnce : {H : Type 0} → Slot H → Acts → Type 0
IsOnce Empty acts = Unit {0}
IsOnce (Keys t) acts = Unit {0}
IsOnce (Rows f) acts = Unit {0}
IsOnce (Full t) acts = WonOnce t.table acts
IsOnce Spent acts = Unit {0}

abbrev pub AllOnce : {H : Type 0} → List (Slot H) → List Acts → Type 0
AllOnce [] acts = Unit {0}
AllOnce (s ∷ ss) [] = ⊥
AllOnce (s ∷ ss) (a ∷ acts) = IsOnce s a × AllOnce ss acts

-- ---- a flush that went a part of its way

-- the last leg has left its first stage, the flags of its join are closed, and what that kept went a
-- part of its way through the stages behind: one of their nodes was given more rows than the limit
pub record HasBroken {H K B C : Type 0} (hash_of : H → List ℕ → ℕ) (sink : SinkWords K B C)
    (limit : ℕ) (from : List Field) (old new : List (Lane (PhysOperator H) K))
    (ss ss' : List (Slot H)) (free free' : List (List SeatMarks)) (node : ℕ) : Type 0 where
  pub slot : Slot H
  pub seats : List SeatMarks
  pub mid : List (Lane (PhysOperator H) K)
  pub left : HasLeft hash_of sink limit from slot seats old mid ss ss' free free'
  pub closed : Slot H
  pub closes : IsClosedAs slot seats closed
  pub same : DoTheSame (phys_words hash_of) sink mid new
  pub held : HoldSeats hash_of new ss' free'
  pub over : IsOverIn (phys_words hash_of) ss' limit left.next
      (rows_of_parts parts_in (part_in hash_of) closed) mid new (TooMany node)

abbrev pub BreaksOff : {H K B C : Type 0} → (hash_of : H → List ℕ → ℕ) → SinkWords K B C →
    (limit : ℕ) → (from : List Field) → (old new : List (Lane (PhysOperator H) K)) →
    (ss ss' : List (Slot H)) → (free free' : List (List SeatMarks)) → LaneFault → Type 0
BreaksOff hash_of sink limit from old new ss ss' free free' (TooMany node) =
    HasBroken hash_of sink limit from old new ss ss' free free' node
BreaksOff hash_of sink limit from old new ss ss' free free' Memory = Unit {0}
