-- Sinks that are filled one after the other.
use Rattle.std.specs.Prelude.{ℕ, zero, suc, List, Bool, if◌then◌else◌}
use Rattle.pipe_schema.specs.Rows.{Row}
use Rattle.pipe_events.specs.Stages.{Stages}
use Rattle.pipe_events.specs.Worlds.{World, ends, is_sink}
use Rattle.pipe_world.specs.Changes.{fills}

-- whether a node has the sink above another
abbrev pub ends_at : Stages → (t n : ℕ) → Bool
ends_at plan t n = ends (plan.stage n) t

-- what comes to a node is added to its sink, if it has one
abbrev pub filled : Stages → (come : ℕ → List Row) → ℕ → World → World
filled plan come t w = if is_sink plan t then fills t (come t) w else w

-- what comes to the nodes below a number is added to their sinks
abbrev pub filled_below : Stages → (come : ℕ → List Row) → ℕ → World → World
filled_below plan come zero w = w
filled_below plan come (suc t) w = filled plan come t (filled_below plan come t w)
