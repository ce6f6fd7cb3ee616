use Rattle.std.proofs.Common.{rules}
use Rattle.std.proofs.Output.{has_written_append}
use Rattle.pipe_lines.proofs.text.PipeLineDisplay.fmt.Goals as goal

pub returns-clause-writes : goal.returns-clause-writes
returns-clause-writes g c = λ plain ok.
    let first = c.in_ok-write_source.ensures plain (search rules) in
    let rest = rw c.as_slice.ensures.value at c.write_legs.ensures in
    has_written_append _ _ _ _ _ _ first (rest first.plain ok)
