-- What the steps of a run write.
use Rattle.std.specs.Prelude.{ℕ, List, [], ◌∷◌}
use Rattle.pipe_events.specs.Stages.{Stage, Stages, Scan, Each, Union, Sort, Joined, flushes}
use Rattle.pipe_events.specs.Worlds.{Event, Close, OfSort, OfBuild}
use Rattle.pipe_events.specs.Runs.{IsNothing, SourcesTaken, IsEnding}
use Rattle.pipe_driver.specs.declared.branch.SinkAt.{SinkAt}
use Rattle.pipe_driver.specs.declared.branch.SinkAt.TheVariants as at
use Rattle.pipe_driver.specs.Boards.{Board, held_at}

-- a leg that begins at a node: all rows that it takes there were taken, source by source, in any
-- chunks and by any workers
abbrev pub IsLegOf : Board → ℕ → List Event → Type 0
IsLegOf b x more = SourcesTaken b.stages (held_at b x) more

-- the last leg left a node: where a join flushes, its probe side was closed, and each partition
-- flushed by one worker
abbrev pub ends_by : Stages → ℕ → Stage → List Event → Type 0
ends_by plan n (Scan rows) more = IsNothing more
ends_by plan n (Each input op) more = IsNothing more
ends_by plan n (Union inputs) more = IsNothing more
ends_by plan n (Sort input sorted) more = IsNothing more
ends_by plan n (Joined j) more = IsEnding plan (flushes j) n more

abbrev pub IsEndOf : Board → ℕ → List Event → Type 0
IsEndOf b n more = ends_by b.stages n (b.stages.stage n) more

-- a sink was closed; that of the root isn't the side of a node
abbrev pub closing : SinkAt → List Event
closing at.Ordered = []
closing (at.Sort n) = Close n OfSort ∷ []
closing (at.Build n) = Close n OfBuild ∷ []
