-- The size that a frame is estimated at, in bytes: the sum over its rows.
use Rattle.std.specs.Prelude.{ℕ, sum_by}
use Rattle.pipe_frame.specs.Frame.{Table}
use Rattle.pipe_schema.specs.Sizes.{row_size}

abbrev pub frame_size : Table → ℕ
frame_size table = sum_by (row_size table.schema) table.rows
