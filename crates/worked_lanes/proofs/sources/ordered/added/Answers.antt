use Rattle.std.proofs.Common.{◌∙◌, length-append}
use Rattle.pipe_source.specs.Ordered.{held_in}
use Rattle.worked_lanes.proofs.Lengths.{same_length}
use Rattle.worked_lanes.proofs.sources.ordered.added.Goals as goal

pub returns-clause-rows : goal.returns-clause-rows
returns-clause-rows c =
    same_length (held_in c.sink.new.self) _ c.in_ok-sink.ensures.held
    ∙ length-append (held_in c.args.sink) c.args.chunk.frame.rows
