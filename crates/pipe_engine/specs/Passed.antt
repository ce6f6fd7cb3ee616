-- The world after rows came to its places.
use Rattle.std.specs.Prelude.{ℕ, List, ◌++◌}
use Rattle.pipe_schema.specs.Rows.{Row}
use Rattle.pipe_driver.specs.Meaning.{Place}
use Rattle.pipe_driver.specs.State.{World}

-- some rows more came to each place, and were given for keys
abbrev pub with_more : World → (Place → List Row) → (ℕ → List Row) → World
with_more w came more = record {
  there = λ x. w.there x ++ came x;
  gained = λ j. w.gained j ++ more j;
  slot = w.slot;
}
