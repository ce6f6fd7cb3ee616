-- What a world of a plan has at its root.
use Rattle.std.specs.Prelude.{◌≡◌, List, true}
use Rattle.pipe_schema.specs.Rows.{Row, Same, Within}
use Rattle.pipe_events.specs.Stages.{Stages}
use Rattle.pipe_events.specs.Worlds.{World}
use Rattle.pipe_events.specs.Decided.{is_complete}

-- the rows of the root are among some; they are these rows, where the world is complete
pub record HasTheRows (plan : Stages) (rows : List Row) (w : World) : Type 0 where
  pub within : Within (w.bag plan.root) rows
  pub whole : is_complete plan w ≡ true → Same (w.bag plan.root) rows
