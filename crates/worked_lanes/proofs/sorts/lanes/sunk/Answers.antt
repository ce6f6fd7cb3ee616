use Rattle.std.proofs.Common.{◌∙◌, List, ◌++◌, length, ap}
use Rattle.pipe_schema.specs.Rows.{Row}
use Rattle.pipe_frame.specs.declared.chunk.DataChunk.{DataChunk}
use Rattle.worked_lanes.proofs.Lengths.{same_length}
use Rattle.worked_lanes.proofs.sorts.lanes.sunk.Goals as goal

pub returns-clause-rows : goal.returns-clause-rows
returns-clause-rows c =
    same_length c.sink.new.self.rows _ c.in_ok-sink.ensures.held
    ∙ ap (λ (rows : List Row). length (rows ++ c.new.result.frame.rows)) c.requires.empty
    ∙ ap (λ (chunk : DataChunk). length chunk.frame.rows) c.new.ensures
