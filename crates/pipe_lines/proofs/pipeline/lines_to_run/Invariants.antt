use Rattle.std.proofs.Common.{◌≡◌, ◌++◌, length, map}
use Rattle.std.specs.Vec.Iter.{into_iter_items, into_iter_len}
use Rattle.pipe_lines.specs.Cuts.{way_in}
use Rattle.pipe_lines.proofs.pipeline.lines_to_run.Given as goal

abbrev pub invariant-loop-pipeline : goal.invariant-loop-pipeline
invariant-loop-pipeline g l = (l.lines.items ++ map way_in (into_iter_items l.pipeline-iterator) ≡ map way_in (into_iter_items l.initial.pipeline-iterator))
    × (into_iter_len l.pipeline-iterator ≡ length (into_iter_items l.pipeline-iterator))
