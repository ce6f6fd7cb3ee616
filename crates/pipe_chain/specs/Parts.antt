-- A part of the way of some rows: what was counted and marked on it is no more than came in.
use Rattle.std.specs.Prelude.{ℕ, ◌≤◌, List, [], ◌∷◌, length}
use Rattle.std.specs.List.{flat_map}
use Rattle.pipe_schema.specs.Rows.{Row}
use Rattle.pipe_chain.specs.Keys.{WithinKeys}
use Rattle.pipe_chain.specs.Flow.{Work, Acts, made, Few}

-- no more than these rows came into some operators, and no more was counted and marked than came in
abbrev pub Parts : List Work → List Acts → List ℕ → List Row → Type 0
Parts [] [] [] rows = ⊥
Parts [] [] (n ∷ []) rows = n ≤ length rows
Parts [] [] (n ∷ m ∷ counts) rows = ⊥
Parts [] (a ∷ acts) counts rows = ⊥
Parts (w ∷ ws) [] counts rows = ⊥
Parts (w ∷ ws) (a ∷ acts) [] rows = ⊥
Parts (w ∷ ws) (a ∷ acts) (n ∷ counts) rows =
    (n ≤ length rows) × WithinKeys a.marked (flat_map w.asks rows) × Few a
    × Parts ws acts counts (made w a.won rows)
