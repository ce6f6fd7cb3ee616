-- The journal of a run, leg by leg, as statements: what each step writes is allowed where it stands,
-- and beside the state that the step leaves the journal tells what it did before.
use Rattle.std.specs.Prelude.{◌≡◌, ℕ, ◌<◌, List, [], ◌∷◌, ◌++◌, Bool, true, false, Some, length}
use Rattle.pipe_schema.specs.Rows.{Row, Same}
use Rattle.pipe_plan.specs.Plan.{Plan}
use Rattle.pipe_plan.specs.Under.{is_under}
use Rattle.pipe_plan.specs.PlanRows.{rows_of}
use Rattle.pipe_plan.specs.Faults.{IsWellFormed}
use Rattle.pipe_events.specs.Stages.{JoinStage, Scan, Sort, Joined, IsStages, flushes, rows}
use Rattle.pipe_events.specs.Worlds.{Event, Side, OfSort, OfBuild, OfProbe, start, side_below}
use Rattle.pipe_events.specs.Schedules.{AllAllowed, run, IsComplete, FlagsAreMatches}
use Rattle.pipe_events.specs.PlanStages.{Setting, stage_at, stages_of}
use Rattle.pipe_events.specs.Runs.{supply}
use Rattle.pipe_driver.specs.declared.branch.SinkAt.{SinkAt}
use Rattle.pipe_driver.specs.Shape.{kind_at}
use Rattle.pipe_driver.specs.Meaning.{meaning_of}
use Rattle.pipe_driver.specs.Legs.{Leg, Way, ways_of, sink_node}
use Rattle.pipe_driver.specs.Ways.{IsSinkOf}
use Rattle.pipe_driver.specs.State.{World, Counts, nothing, is_sink, IsBetween, IsReady, IsPassing, IsFed, HasTail, IsLowered, TakesOut, IsStart}
use Rattle.pipe_driver.specs.Steps.{with_probers, with_sinks}
use Rattle.pipe_driver.specs.Boards.{Board, IsBoard, may_hold, held_at, begins_leg, board_of}
use Rattle.pipe_driver.specs.Recorded.{is_shut, IsNoted, IsSorted}
use Rattle.pipe_driver.specs.Written.{IsLegOf, IsEndOf, closing}

-- a well-formed plan has a board
abbrev pub PlansHaveBoards : Type 0
PlansHaveBoards =
    (plan : Plan) (root : ℕ) (setting : Setting) → IsWellFormed plan root
    → IsStages (stages_of plan root setting) → IsBoard (board_of plan root setting)

-- where a leg begins it takes the rows of that node, and at a union those of all scans that it reads
abbrev pub LegsTakeTheirSources : Type 0
LegsTakeTheirSources =
    (plan : Plan) (root n : ℕ) (setting : Setting) → IsWellFormed plan root
    → (meaning_of plan root).is_run n ≡ true → begins_leg (kind_at plan.nodes n) ≡ true
    → held_at (board_of plan root setting) n ≡ may_hold n (stage_at plan root n)

-- a scan and a sort have as many positions as rows
pub record HasItsSupply (plan : Plan) (root n : ℕ) (setting : Setting) : Type 0 where
  pub scan : (list : List Row) → stage_at plan root n ≡ Scan list →
      supply (stages_of plan root setting) n ≡ length (rows_of plan n)
  pub sort : (input : ℕ) (sorted : List Row → List Row) → stage_at plan root n ≡ Sort input sorted →
      supply (stages_of plan root setting) n ≡ length (rows_of plan n)

abbrev pub SuppliesAreRows : Type 0
SuppliesAreRows =
    (plan : Plan) (root n : ℕ) (setting : Setting) → IsWellFormed plan root
    → is_under plan.nodes root n ≡ true → HasItsSupply plan root n setting

-- before the first branch runs the empty journal tells what it should
abbrev pub JournalsStart : Type 0
JournalsStart =
    (plan : Plan) (root : ℕ) (setting : Setting) (w : World) (c : Counts) → IsWellFormed plan root
    → IsStages (stages_of plan root setting) → IsStart w c (ways_of plan root)
    → IsNoted (board_of plan root setting) c nothing [] (ways_of plan root) []

-- the next branch begins
abbrev pub BranchesAreNoted : Type 0
BranchesAreNoted =
    (b : Board) (c : Counts) (p : Way) (parked todo : List Way) (events : List Event)
    → IsNoted b c nothing parked (p ∷ todo) events
    → IsNoted b c nothing (p ∷ parked) todo events × IsSorted b.m c p

-- the rows of a way's first leg were taken
abbrev pub LegsAreNoted : Type 0
LegsAreNoted =
    (b : Board) (w : World) (c : Counts) (p : Way) (leg : Leg) (legs : List Leg)
    (parked later todo : List Way) (events more : List Event)
    → IsBoard b → IsReady b.m w c p parked todo → IsSorted b.m c p → p.legs ≡ leg ∷ legs
    → HasTail leg.sink legs parked later → IsNoted b c nothing (p ∷ parked) todo events
    → IsLegOf b p.start more → IsNoted b c nothing later todo (events ++ more)

-- the leg leaves a node that others still go through
abbrev pub LeavesAreNoted : Type 0
LeavesAreNoted =
    (b : Board) (c : Counts) (probers : ℕ → ℕ) (op : ℕ) (parked todo : List Way)
    (events : List Event)
    → IsLowered op c.probers probers → 0 < probers op → IsNoted b c nothing parked todo events
    → IsNoted b (with_probers c probers) nothing parked todo events

-- the last leg leaves it
abbrev pub EndsAreNoted : Type 0
EndsAreNoted =
    (b : Board) (w : World) (c : Counts) (probers : ℕ → ℕ) (op : ℕ) (now : List ℕ) (s : ℕ)
    (parked todo : List Way) (events more : List Event)
    → IsBoard b → IsPassing b.m w c (op ∷ now) s parked todo → IsLowered op c.probers probers
    → probers op ≡ 0 → IsNoted b c nothing parked todo events → IsEndOf b op more
    → IsNoted b (with_probers c probers) nothing parked todo (events ++ more)

-- the leg is counted at its sink
abbrev pub FeedsAreNoted : Type 0
FeedsAreNoted =
    (b : Board) (c : Counts) (sinks : ℕ → ℕ) (s : ℕ) (parked todo : List Way) (events : List Event)
    → IsLowered s c.sinks sinks → IsNoted b c nothing parked todo events
    → IsNoted b (with_sinks c sinks) (is_sink s) parked todo events

-- a sink that others still feed stays open
abbrev pub OpenSinksAreNoted : Type 0
OpenSinksAreNoted =
    (b : Board) (c : Counts) (s : ℕ) (parked todo : List Way) (events : List Event)
    → 0 < c.sinks s → IsNoted b c (is_sink s) parked todo events
    → IsNoted b c nothing parked todo events

-- another one is closed
abbrev pub ClosesAreNoted : Type 0
ClosesAreNoted =
    (b : Board) (w : World) (c : Counts) (at : SinkAt) (parked todo : List Way) (events : List Event)
    → IsBoard b → IsSinkOf b.m (sink_node b.m.ordered at) at
    → IsFed b.m w c (sink_node b.m.ordered at) parked todo
    → c.sinks (sink_node b.m.ordered at) ≡ 0
    → IsNoted b c (is_sink (sink_node b.m.ordered at)) parked todo events
    → IsNoted b c nothing parked todo (events ++ closing at)

-- and the way that waited behind a sort goes on
abbrev pub WaysAreNoted : Type 0
WaysAreNoted =
    (b : Board) (c : Counts) (s : ℕ) (q : Way) (parked later todo : List Way) (events : List Event)
    → c.sinks s ≡ 0 → TakesOut s q parked later → IsNoted b c nothing parked todo events
    → IsNoted b c nothing (q ∷ later) todo events × IsSorted b.m c q

-- ---- the world of the events

-- whether a side is that of a sink: of a sort, or of the built side of a join
abbrev pub of_sink : Side → Bool
of_sink OfSort = true
of_sink OfBuild = true
of_sink OfProbe = false

-- what came to a closed sink are the rows of the node below it, and the flags of a join whose probe
-- side is closed are the keys that the rows of that side match
pub record HasItsRows (b : Board) (closed : ℕ → Side → Bool) (events : List Event) : Type 0 where
  pub sinks : (n t : ℕ) (side : Side) → of_sink side ≡ true →
      side_below (b.stages.stage n) side ≡ Some t → closed n side ≡ true →
      Same ((run b.stages start events).bag t) (rows b.stages t)
  pub flags : (n : ℕ) (j : JoinStage) → b.stages.stage n ≡ Joined j → flushes j ≡ true →
      closed n OfProbe ≡ true → FlagsAreMatches b.stages (run b.stages start events) n j

-- it holds beside each state of a run
abbrev pub WorldsAgree : Type 0
WorldsAgree =
    (b : Board) (c : Counts) (but : ℕ → Bool) (live todo : List Way) (events : List Event)
    → IsBoard b → IsNoted b c but live todo events → HasItsRows b (is_shut c but) events

-- ---- the end

-- each event is allowed where it stands, the list is complete, and it brought the root its rows
pub record IsWhole (b : Board) (events : List Event) : Type 0 where
  pub allowed : AllAllowed b.stages start events
  pub complete : IsComplete b.stages (run b.stages start events)
  pub rows : Same ((run b.stages start events).bag b.stages.root) (rows b.stages b.stages.root)

-- where the root's sink is closed, the journal is whole
abbrev pub JournalsEnd : Type 0
JournalsEnd =
    (b : Board) (w : World) (c : Counts) (parked todo : List Way) (events : List Event)
    → IsBoard b → IsBetween b.m w c parked todo → c.sinks b.m.ordered ≡ 0
    → IsNoted b c nothing parked todo events → IsWhole b events
