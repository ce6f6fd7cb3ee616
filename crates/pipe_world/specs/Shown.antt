-- The world that lists of data stand for.
use Rattle.std.specs.Prelude.{◌≡◌, ℕ, List, [], Bool, true, false, length}
use Rattle.std.specs.List.{list_any}
use Rattle.pipe_schema.specs.Rows.{Row, eq_row}
use Rattle.pipe_events.specs.Stages.{Key}
use Rattle.pipe_events.specs.Worlds.{Load, World}
use Rattle.pipe_plain.specs.Tables.{at_place}

-- for each node what was taken of it, the keys that are flagged there, the partitions that are
-- flushed, whether the side above it is closed, and the rows of its sink
pub record Shown : Type 0 where
  pub taken : List (List ℕ)
  pub pending : List Load
  pub flagged : List (List Key)
  pub flushed : List (List ℕ)
  pub closed : List Bool
  pub bags : List (List Row)

-- whether a key is flagged
abbrev pub flag_in : List (List Key) → ℕ → Key → Bool
flag_in flagged k key = list_any (eq_row key) (at_place [] flagged k)

abbrev pub world_of : Shown → World
world_of s = record {
  taken = at_place [] s.taken;
  pending = s.pending;
  flag = flag_in s.flagged;
  flushed = at_place [] s.flushed;
  closed = at_place false s.closed;
  bag = at_place [] s.bags;
}

-- for how many nodes it is
pub record IsFor (nodes : ℕ) (s : Shown) : Type 0 where
  pub taken : length s.taken ≡ nodes
  pub flagged : length s.flagged ≡ nodes
  pub flushed : length s.flushed ≡ nodes
  pub closed : length s.closed ≡ nodes
  pub bags : length s.bags ≡ nodes
