-- What the driver's steps do, for each plan of which the run may be.
use Rattle.std.specs.Prelude.{◌≡◌, ℕ, ◌+◌, ◌<◌, ◌≤◌, ◌==◌, List, [], Option, Some, None, true, false, length}
use Rattle.pipe_frame.specs.Frame.{Table}
use Rattle.pipe_schema.specs.Rows.{Same}
use Rattle.pipe_plan.specs.PlanRows.{rows_of}
use Rattle.pipe_driver.specs.declared.branch.SinkAt.{SinkAt}
use Rattle.pipe_driver.specs.declared.branch.SinkAt.TheVariants as places
use Rattle.pipe_driver.specs.Ways.{occurs, IsSinkOf, IsSoundMeaning}
use Rattle.pipe_driver.specs.declared.pipe_line.PipeLine.{PipeLine}
use Rattle.pipe_driver.specs.declared.run.Run.{Run}
use Rattle.pipe_driver.specs.declared.run.Fed.{Fed}
use Rattle.pipe_driver.specs.declared.run.Next.{Next}
use Rattle.pipe_driver.specs.declared.run.Next.TheVariants as next
use Rattle.pipe_driver.specs.declared.run.Passing.{Passing}
use Rattle.pipe_driver.specs.declared.sink_counts.SinkCounts.{SinkCounts}
use Rattle.pipe_driver.specs.Tables.{number_at}
use Rattle.pipe_driver.specs.Lines.{counts_as}
use Rattle.pipe_driver.specs.Runs.{sink_of, Between, Ready, Passes, Feeds, HasLed, HasRun, IsNext, IsAnswer, KeepsRoot, HasStopped}
use Rattle.pipe_driver.specs.Fronts.{FedMore, FedOn, HasRunFront, IsOnTheWayBy}
use Rattle.pipe_driver.specs.Plans.{StandFor}
use Rattle.pipe_driver.specs.Within.{AllWithin, RunEndsWith}
use Rattle.pipe_driver.specs.declared.error.RunError.{RunError}
use Rattle.pipe_source.specs.declared.phys_source.PhysSource.{PhysSource}
use Rattle.pipe_engine.specs.Engine.{engine_words, sink_at, OthersStay}
use Rattle.pipe_engine.specs.Finished.{IsRootFrame}
use Rattle.pipe_engine.specs.Known.{Known, words_of, Asked}
use Rattle.pipe_engine.specs.declared.engine.Engine.{Engine}
use Rattle.pipe_engine.specs.declared.part.Part.{Part}

-- a pipeline of the engine's, and a run of such
abbrev pub Line : Type 0 → Type 0
Line H = PipeLine PhysSource (Part H)

abbrev pub LineRun : Type 0 → Type 0
LineRun H = Run (Engine H) PhysSource (Part H)

-- some plan, with its settings, is so
pub record ForSome {H : Type 0} (P : Known H → Type 0) : Type 0 where
  pub k : Known H
  pub is : P k

-- each that is so is also so
abbrev pub ForEach : {H : Type 0} → (P Q : Known H → Type 0) → Type 0
ForEach {H = H} P Q = (k : Known H) → P k → Q k

-- ---- a leg

-- a pipeline of the plan may go on
pub record CanGo {H : Type 0} (hash_of : H → List ℕ → ℕ) (run : LineRun H) (p : Line H)
    (todo : List (Line H)) (k : Known H) : Type 0 where
  pub sound : IsSoundMeaning k.task.m
  pub ready : Ready (words_of hash_of k) k.task run p todo

-- its first leg has come to its sink
abbrev pub Led : {H : Type 0} → (hash_of : H → List ℕ → ℕ) → Line H → (old new : LineRun H) →
    List (Line H) → Passing → Known H → Type 0
Led hash_of p old new todo leg k = HasLed (words_of hash_of k) k.task p old new todo leg

-- a leg isn't counted at these nodes and its sink
pub record CanPass {H : Type 0} (hash_of : H → List ℕ → ℕ) (run : LineRun H) (now : List ℕ)
    (at : SinkAt) (todo : List (Line H)) (k : Known H) : Type 0 where
  pub sound : IsSoundMeaning k.task.m
  pub passes : Passes (words_of hash_of k) k.task run now at todo

abbrev pub IsLeftAt : {H : Type 0} → (hash_of : H → List ℕ → ℕ) → LineRun H → List ℕ → SinkAt →
    List (Line H) → Known H → Type 0
IsLeftAt hash_of run now at todo k = Passes (words_of hash_of k) k.task run now at todo

-- the leg was counted at its sink
abbrev pub Ran : {H : Type 0} → (hash_of : H → List ℕ → ℕ) → Line H → (old new : LineRun H) →
    List (Line H) → Fed → Known H → Type 0
Ran hash_of p old new todo fed k = HasRun (words_of hash_of k) k.task p old new todo fed

-- a leg has fed a sink of this number
pub record CanClose {H : Type 0} (hash_of : H → List ℕ → ℕ) (run : LineRun H) (fed : Fed)
    (todo : List (Line H)) (k : Known H) : Type 0 where
  pub sound : IsSoundMeaning k.task.m
  pub feeds : Feeds (words_of hash_of k) k.task run fed.at todo
  pub at : IsSinkOf k.task.m (sink_of k.task fed.at) fed.at
  pub number : fed.count ≡ k.task.number (sink_of k.task fed.at)

-- what comes behind the sink
abbrev pub ComesNext : {H : Type 0} → (hash_of : H → List ℕ → ℕ) → (old new : LineRun H) → Fed →
    List (Line H) → Next PhysSource (Part H) → Known H → Type 0
ComesNext hash_of old new fed todo next k =
    IsNext (words_of hash_of k) k.task old new todo (sink_of k.task fed.at) next

-- ---- counts of sinks

-- a leg less feeds a sink, and no more feed any other
pub record HasLowered (fed : Fed) (old new : SinkCounts) : Type 0 where
  pub here : number_at old.left.items fed.count ≡ number_at new.left.items fed.count + 1
  pub none_rose : (k : ℕ) → number_at new.left.items k ≤ number_at old.left.items k
  pub others : (k : ℕ) → (k == fed.count) ≡ false →
      number_at new.left.items k ≡ number_at old.left.items k

-- ---- sinks that are open

-- a leg has fed this sink alone
abbrev pub FedAlone : {H : Type 0} → SinkAt → (old new : LineRun H) → Known H → Type 0
FedAlone at old new k =
    OthersStay (sink_of k.task at) old.runner.sinks.items new.runner.sinks.items

-- a sink that is open was fed, by its number, and legs still feed it
pub record AreOpen {H : Type 0} (numbers : List ℕ) (run : LineRun H) (k : Known H) : Type 0 where
  pub unfed : (s : ℕ) → occurs (k.task.number s) numbers ≡ 0 →
      sink_at run.runner.sinks.items s ≡ None
  pub fed_out : (s : ℕ) → number_at run.counts.left.items (k.task.number s) ≡ 0 →
      sink_at run.runner.sinks.items s ≡ None

abbrev pub KeepsOpen : {H : Type 0} → (old new : LineRun H) → (numbers numbers' : List ℕ) → Known H →
    Type 0
KeepsOpen old new numbers numbers' k = AreOpen numbers old k → AreOpen numbers' new k

-- ---- answers

-- only the root's sink gives an answer
abbrev pub AnswersAt : {H : Type 0} → SinkAt → Next PhysSource (Part H) → Type 0
AnswersAt at (next.GoOn p) = Unit {0}
AnswersAt at next.Stay = Unit {0}
AnswersAt at (next.Answer frame) = at ≡ places.Ordered

-- where there is an answer, fewer legs feed the root's sink
abbrev pub LowersRoot : {H : Type 0} → (old new : LineRun H) → Option Table → Known H → Type 0
LowersRoot old new None k = Unit {0}
LowersRoot old new (Some frame) k =
    (counts_as k.task new).sinks k.task.m.ordered < (counts_as k.task old).sinks k.task.m.ordered

-- ---- front parts of branches

-- a pipeline, and those that went on behind it, have come to a sink that stays open, or to the last
abbrev pub Stopped : {H : Type 0} → (hash_of : H → List ℕ → ℕ) → (old new : LineRun H) →
    List (Line H) → Option Table → Known H → Type 0
Stopped hash_of old new todo answer k = HasStopped (words_of hash_of k) k.task old new todo answer

abbrev pub FedSinks : {H : Type 0} → Line H → (old new : LineRun H) → (fed fed' : List ℕ) →
    Known H → Type 0
FedSinks p old new fed fed' k = FedMore k.task p old new fed fed'

-- one that went on goes on
pub record IsGoing {H : Type 0} (hash_of : H → List ℕ → ℕ) (first : Line H) (old run : LineRun H)
    (current : Line H) (todo : List (Line H)) (was now : List ℕ) (k : Known H) : Type 0 where
  pub ready : Ready (words_of hash_of k) k.task run current todo
  pub root : KeepsRoot k.task old run
  pub fed : FedOn k.task first old run current was now

-- the next branch may begin
pub record CanBegin {H : Type 0} (hash_of : H → List ℕ → ℕ) (run : LineRun H)
    (todo : List (Line H)) (k : Known H) : Type 0 where
  pub sound : IsSoundMeaning k.task.m
  pub between : Between (words_of hash_of k) k.task run todo

-- between two branches of a front part
abbrev pub IsOnTheFront : {H : Type 0} → (hash_of : H → List ℕ → ℕ) → List (Line H) →
    (old run : LineRun H) → Line H → List (Line H) → (numbers : List ℕ) → Option Table →
    Known H → Type 0
IsOnTheFront hash_of all old run current later numbers answer k =
    IsOnTheWayBy (words_of hash_of k) k.task all old run current later numbers answer

-- a front part of the branches has run
abbrev pub RanFront : {H : Type 0} → (hash_of : H → List ℕ → ℕ) → List (Line H) →
    (old new : LineRun H) → List (Line H) → Option Table → Known H → Type 0
RanFront hash_of all old new later answer k =
    HasRunFront (words_of hash_of k) k.task all old new later answer

-- ---- all branches

-- some branch that is left feeds the root's sink
pub record CanRun {H : Type 0} (hash_of : H → List ℕ → ℕ) (run : LineRun H) (todo : List (Line H))
    (k : Known H) : Type 0 where
  pub sound : IsSoundMeaning k.task.m
  pub between : Between (words_of hash_of k) k.task run todo
  pub root : 0 < (counts_as k.task run).sinks k.task.m.ordered

-- all branches have run but these
pub record HasRunTo {H : Type 0} (hash_of : H → List ℕ → ℕ) (old run : LineRun H)
    (todo : List (Line H)) (answer : Option Table) (k : Known H) : Type 0 where
  pub sound : IsSoundMeaning k.task.m
  pub between : Between (words_of hash_of k) k.task run todo
  pub root : IsAnswer k.task old run answer

-- the rows of the root
abbrev pub HasRoot : {H : Type 0} → Table → Known H → Type 0
HasRoot frame k = Same frame.rows (k.task.m.below k.task.m.ordered)

-- ---- the schema of the answer

-- an answer, where it is there, has the schema of the root's sink
abbrev pub IsRootAnswer : {H : Type 0} → Option Table → Known H → Type 0
IsRootAnswer None k = Unit {0}
IsRootAnswer (Some frame) k = IsRootFrame k.settings frame

abbrev pub IsRootNext : {H : Type 0} → Next PhysSource (Part H) → Known H → Type 0
IsRootNext (next.GoOn p) k = Unit {0}
IsRootNext next.Stay k = Unit {0}
IsRootNext (next.Answer frame) k = IsRootFrame k.settings frame

abbrev pub HasRootSchema : {H : Type 0} → Table → Known H → Type 0
HasRootSchema frame k = IsRootFrame k.settings frame

-- ---- the limit

-- no node that is run has more rows than the limit
abbrev pub RunsWithin : {H : Type 0} → (limit : ℕ) → Known H → Type 0
RunsWithin limit k =
    (n : ℕ) → k.task.m.is_run n ≡ true → n < k.task.m.ordered → length (k.task.m.rows n) ≤ limit

-- ---- a plan

-- pipelines stand for the branches of a plan
pub record ForPlan {H : Type 0} (hash_of : H → List ℕ → ℕ) (run : LineRun H)
    (pipelines : List (Line H)) : Type 0 where
  pub asked : Asked H
  pub stand : StandFor (engine_words hash_of asked.settings) asked.ask run pipelines

-- the rows of the root of each plan for whose branches pipelines stand
abbrev pub AnswersPlan : {H : Type 0} → (hash_of : H → List ℕ → ℕ) → LineRun H → List (Line H) →
    Table → Type 0
AnswersPlan {H = H} hash_of run pipelines frame =
    (asked : Asked H) → StandFor (engine_words hash_of asked.settings) asked.ask run pipelines
    → Same frame.rows (rows_of asked.ask.plan asked.ask.root)

-- it has the schema of the root's sink
abbrev pub AnswersSchema : {H : Type 0} → (hash_of : H → List ℕ → ℕ) → LineRun H → List (Line H) →
    Table → Type 0
AnswersSchema {H = H} hash_of run pipelines frame =
    (asked : Asked H) → StandFor (engine_words hash_of asked.settings) asked.ask run pipelines
    → IsRootFrame asked.settings frame

-- no node under its root has more rows than the run's limit
abbrev pub KeepsLimit : {H : Type 0} → (hash_of : H → List ℕ → ℕ) → LineRun H → List (Line H) → Type 0
KeepsLimit {H = H} hash_of run pipelines =
    (asked : Asked H) → StandFor (engine_words hash_of asked.settings) asked.ask run pipelines
    → AllWithin run.runner.context.row_limit asked.ask.plan asked.ask.root

-- an error says of it what happened: no memory, a stop, or a node under its root with more rows than
-- the run's limit
abbrev pub EndsPlan : {H : Type 0} → (hash_of : H → List ℕ → ℕ) → LineRun H → List (Line H) →
    RunError → Type 0
EndsPlan {H = H} hash_of run pipelines e =
    (asked : Asked H) → StandFor (engine_words hash_of asked.settings) asked.ask run pipelines
    → RunEndsWith run.runner.context.row_limit asked.ask.plan asked.ask.root e
