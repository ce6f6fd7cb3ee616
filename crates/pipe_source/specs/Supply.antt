-- What is left of a source, and how deep sources stand in it.
use Rattle.std.specs.Prelude.{ℕ, List, drop}
use Rattle.pipe_frame.specs.Frame.{Table}
use Rattle.pipe_ops.specs.Batches.{Left, cut}
use Rattle.pipe_ops.specs.declared.source.Morsel.{Morsel}

pub record Supply : Type 0 where
  pub left : List Left
  pub depth : ℕ

-- what is left of a frame, from a row on
abbrev pub left_at : ℕ → Table → Left
left_at from frame = record { from = from; schema = frame.schema; rows = drop from frame.rows }

-- the first so many chunks of what is left of a frame
abbrev pub front_of : (many size index : ℕ) → Left → List Morsel
front_of many size index left = cut many size index 0 left.from left.schema left.rows
