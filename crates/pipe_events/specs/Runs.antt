-- What a run that goes through a plan's nodes in the order of their numbers writes down: at a join
-- the flow of its built side, at a sort that of its input, at the end that of the root. A marking
-- join is run where a flow begins at it, right before that flow.
use Rattle.std.specs.Prelude.{◌≡◌, ◌≢◌, ℕ, zero, suc, ◌+◌, ◌<◌, ◌≤◌, List, [], ◌∷◌, ◌++◌, length, map, Bool, true, false, if◌then◌else◌, ◌==◌, None}
use Rattle.std.specs.List.{AllByRecursion, flat_map, list_any, range_with_len}
use Rattle.pipe_schema.specs.Rows.{Same}
use Rattle.pipe_plan.specs.Walk.{walk}
use Rattle.pipe_plan.specs.Plan.{Plan}
use Rattle.pipe_plan.specs.Faults.{plan_fault}
use Rattle.pipe_events.specs.Stages.{JoinStage, Stage, Stages, Scan, Each, Union, Sort, Joined, IsStages, marks, flushes, rows}
use Rattle.pipe_events.specs.Worlds.{Event, Close, Side, OfBuild, OfProbe, OfSort, start, count}
use Rattle.pipe_events.specs.Schedules.{AllAllowed, run, IsComplete}
use Rattle.pipe_events.specs.PlanStages.{Setting, stages_of}
use Rattle.pipe_events.specs.Rounds.{Chunk, Flushed, positions, part_in, takes, flushing, IsPart}

-- ---- where rows begin

-- where the rows of a node begin: at scans, sorts and marking joins
abbrev pub begins_of : (at : ℕ → List ℕ) → ℕ → Stage → List ℕ
begins_of at k (Scan rows) = k ∷ []
begins_of at k (Each input op) = at input
begins_of at k (Union inputs) = flat_map at inputs
begins_of at k (Sort input sorted) = k ∷ []
begins_of at k (Joined j) = if marks j then k ∷ [] else at j.probe

-- the marking joins on the way to a node, lower ones first
abbrev pub marking_of : (at : ℕ → List ℕ) → ℕ → Stage → List ℕ
marking_of at k (Scan rows) = []
marking_of at k (Each input op) = at input
marking_of at k (Union inputs) = flat_map at inputs
marking_of at k (Sort input sorted) = []
marking_of at k (Joined j) = if marks j then at j.probe ++ k ∷ [] else at j.probe

-- the nodes that a stage reads
abbrev pub inputs_of : Stage → List ℕ
inputs_of (Scan rows) = []
inputs_of (Each input op) = input ∷ []
inputs_of (Union inputs) = inputs
inputs_of (Sort input sorted) = input ∷ []
inputs_of (Joined j) = j.probe ∷ j.build ∷ []

-- ---- lists of events

-- events in two parts, one behind the other
pub record InTwo (First Rest : List Event → Type 0) (events : List Event) : Type 0 where
  pub first : List Event
  pub rest : List Event
  pub whole : events ≡ first ++ rest
  pub is_first : First first
  pub is_rest : Rest rest

-- no events
abbrev pub IsNothing : List Event → Type 0
IsNothing events = events ≡ []

-- a side of a node is closed
abbrev pub IsClose : ℕ → Side → List Event → Type 0
IsClose k side events = events ≡ Close k side ∷ []

module _ (plan : Stages) where
  -- ---- trees

  -- where the rows of node k begin, by where those of the nodes below do
  abbrev pub begins_at : (ℕ → List ℕ) → ℕ → List ℕ
  begins_at at k = begins_of at k (plan.stage k)

  -- where the rows of each node begin
  abbrev pub begins : ℕ → List ℕ
  begins = walk [] begins_at plan.size

  -- the marking joins on the way to node k, by those on the way to the nodes below
  abbrev pub marking_at : (ℕ → List ℕ) → ℕ → List ℕ
  marking_at at k = marking_of at k (plan.stage k)

  -- the marking joins on the way to each node
  abbrev pub marking : ℕ → List ℕ
  marking = walk [] marking_at plan.size

  -- whether node k reads node n
  abbrev pub reads : (k n : ℕ) → Bool
  reads k n = list_any (λ input. input == n) (inputs_of (plan.stage k))

  -- whether any node does
  abbrev pub is_read : ℕ → Bool
  is_read n = list_any (λ k. reads k n) (range_with_len 0 plan.size)

  -- each node but the root is read by one node, whose number is greater, and once; or it is a union
  -- of nothing
  pub record IsTree : Type 0 where
    pub smaller : (k n : ℕ) → reads k n ≡ true → n < k
    pub once : (k n : ℕ) → count n (inputs_of (plan.stage k)) ≤ 1
    pub one_reader : (k m n : ℕ) → reads k n ≡ true → reads m n ≡ true → k ≡ m
    pub root_unread : (k : ℕ) → reads k plan.root ≡ false
    pub others : (n : ℕ) → n ≢ plan.root → is_read n ≡ false → plan.stage n ≡ Union []

  -- ---- what is taken

  -- how many positions a node has: none but scans and sorts have any
  abbrev pub supply_of : ℕ → Stage → ℕ
  supply_of n (Scan list) = length list
  supply_of n (Each input op) = 0
  supply_of n (Union inputs) = 0
  supply_of n (Sort input sorted) = length (rows plan n)
  supply_of n (Joined j) = 0

  -- those of a node of the plan
  abbrev pub supply : ℕ → ℕ
  supply n = supply_of n (plan.stage n)

  -- a worker of the run, and some positions that a node has
  pub record IsChunkOf (n : ℕ) (chunk : Chunk) : Type 0 where
    pub is_worker : chunk.worker < plan.workers
    pub some : 1 ≤ chunk.amount
    pub there : chunk.from + chunk.amount ≤ supply n

  -- chunks of a node, in which each of its positions stands once
  pub record AreAllOf (n : ℕ) (chunks : List Chunk) : Type 0 where
    pub each : AllByRecursion (IsChunkOf n) chunks
    pub once : (p : ℕ) → count p (positions chunks) ≤ 1
    pub all : (p : ℕ) → p < supply n → 1 ≤ count p (positions chunks)

  -- all positions of a node are taken
  pub record SourceTaken (n : ℕ) (events : List Event) : Type 0 where
    pub chunks : List Chunk
    pub whole : events ≡ takes n chunks
    pub are_all : AreAllOf n chunks

  -- those of some nodes are, one node after the other
  abbrev pub SourcesTaken : List ℕ → List Event → Type 0
  SourcesTaken [] events = IsNothing events
  SourcesTaken (n ∷ ns) events = InTwo (SourceTaken n) (SourcesTaken ns) events

  -- ---- marking joins

  -- partitions of a join, in which each stands once
  pub record AreAllParts (parts : List Flushed) : Type 0 where
    pub each : AllByRecursion (IsPart plan) parts
    pub once : (p : ℕ) → count p (map part_in parts) ≤ 1
    pub all : (p : ℕ) → p < plan.parts → 1 ≤ count p (map part_in parts)

  -- a join's probe side is closed, and each of its partitions flushed
  pub record IsFlushed (k : ℕ) (events : List Event) : Type 0 where
    pub parts : List Flushed
    pub whole : events ≡ Close k OfProbe ∷ flushing k parts
    pub are_all : AreAllParts parts

  -- what comes at the end of a marking join, by whether it flushes
  abbrev pub IsEnding : (flushing : Bool) → ℕ → List Event → Type 0
  IsEnding true k events = IsFlushed k events
  IsEnding false k events = IsNothing events

  -- a marking join is run: the rows of its probe side are taken, and what it flushes is flushed
  pub record MarkingRun (k : ℕ) (events : List Event) : Type 0 where
    pub join : JoinStage
    pub is_join : plan.stage k ≡ Joined join
    pub parts : InTwo (SourcesTaken (begins join.probe)) (IsEnding (flushes join) k) events

  -- marking joins are run, one after the other
  abbrev pub AllMarkingRun : List ℕ → List Event → Type 0
  AllMarkingRun [] events = IsNothing events
  AllMarkingRun (k ∷ ks) events = InTwo (MarkingRun k) (AllMarkingRun ks) events

  -- ---- flows and runs

  -- the flow that ends at a node is run: the marking joins on the way, then what begins it
  abbrev pub FlowRun : ℕ → List Event → Type 0
  FlowRun t events = InTwo (AllMarkingRun (marking t)) (SourcesTaken (begins t)) events

  -- what is run at a node's own number: what flows to a sort or to a built side, which is closed
  abbrev pub NodeRun : ℕ → Stage → List Event → Type 0
  NodeRun k (Scan rows) events = IsNothing events
  NodeRun k (Each input op) events = IsNothing events
  NodeRun k (Union inputs) events = IsNothing events
  NodeRun k (Sort input sorted) events = InTwo (FlowRun input) (IsClose k OfSort) events
  NodeRun k (Joined j) events = InTwo (FlowRun j.build) (IsClose k OfBuild) events

  -- the nodes below a number, in order
  abbrev pub RunTo : ℕ → List Event → Type 0
  RunTo zero events = IsNothing events
  RunTo (suc k) events = InTwo (RunTo k) (NodeRun k (plan.stage k)) events

  -- a whole run: all nodes up to the root, and then the root's flow
  abbrev pub IsRun : List Event → Type 0
  IsRun events = InTwo (RunTo (suc plan.root)) (FlowRun plan.root) events

-- What a run writes down is allowed, event by event, and complete
abbrev pub RunsAreComplete : Type 0
RunsAreComplete =
    (plan : Stages) → IsStages plan → IsTree plan → (events : List Event) → IsRun plan events →
    AllAllowed plan start events × IsComplete plan (run plan start events)

-- The stages of a plan without a fault are a tree
abbrev pub PlansAreTrees : Type 0
PlansAreTrees =
    (plan : Plan) (root : ℕ) (setting : Setting) → plan_fault plan root ≡ None →
    IsTree (stages_of plan root setting)

-- After a run the root's bag has the plan's rows
abbrev pub RunsHaveTheRows : Type 0
RunsHaveTheRows =
    (plan : Stages) → IsStages plan → IsTree plan → (events : List Event) → IsRun plan events →
    Same ((run plan start events).bag plan.root) (rows plan plan.root)
