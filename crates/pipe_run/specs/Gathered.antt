-- How far the sinks of lanes were combined when the stop check said yes.
use Rattle.std.specs.Prelude.{◌≡◌, ℕ, ◌+◌, List, ◌++◌, length}
use Rattle.std.specs.List.{flat_map}
use Rattle.pipe_schema.specs.Counts.{Counts}
use Rattle.pipe_schema.specs.Rows.{Row, Same}
use Rattle.pipe_run.specs.declared.lane.Lane.{Lane}
use Rattle.pipe_run.specs.Lanes.{held_in}

-- the sinks of the first lanes were combined, one question before each, and one question more was asked
pub record FirstCombined {O K : Type 0} (held : K → List Row) (lanes : List (Lane O K))
    (asked_old asked_new : ℕ) (old new : List Row) : Type 0 where
  pub combined : List (Lane O K)
  pub left : List (Lane O K)
  pub in_order : lanes ≡ combined ++ left
  pub asked : Counts (length combined + 1) asked_old asked_new
  pub holds : Same new (old ++ flat_map (held_in held) combined)
