-- What the loads of a worker bring to nodes, as tables of rows: one for each load.
use Rattle.std.specs.Prelude.{ℕ, List, [], map}
use Rattle.std.specs.List.{flat_map}
use Rattle.pipe_schema.specs.Rows.{Row}
use Rattle.pipe_events.specs.Stages.{Stages, only, flow_at}
use Rattle.pipe_events.specs.Worlds.{Load, World, mine}
use Rattle.pipe_plain.specs.Tables.{table, at_place}

-- what comes out of each node for one load
abbrev pub load_table : Stages → (built : ℕ → List Row) → Load → List (List Row)
load_table plan built load = table [] (flow_at plan built (only load.node load.rows)) plan.size

abbrev pub tables_of : Stages → World → (worker : ℕ) → List (List (List Row))
tables_of plan w worker = map (load_table plan w.bag) (mine worker w.pending)

-- what stands at a node in a table, and in all of them
abbrev pub rows_in : ℕ → List (List Row) → List Row
rows_in t rows = at_place [] rows t

abbrev pub gathered : List (List (List Row)) → ℕ → List Row
gathered tables t = flat_map (rows_in t) tables
