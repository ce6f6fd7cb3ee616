-- A source within a source is less deep.
use Rattle.std.specs.Prelude.{◌+◌, ◌≤◌, List, [], ◌∷◌}
use Rattle.std.proofs.Common.{arith}
use denote.Param.Weighed.{most}
use Rattle.pipe_source.specs.declared.phys_source.PhysSource.{PhysSource}
use Rattle.pipe_source.specs.declared.phys_source.PhysSource.TheVariants.{Frame, Union, ReProject}
use Rattle.pipe_source.specs.declared.phys_source.ReProjectSource.TheDeep.{deep-PhysSource}
use Rattle.pipe_source.specs.Supplies.{depth_of, deepest}

pub most_le : (sources : List PhysSource) → most deep-PhysSource sources ≤ deepest sources + 1
most_le [] = omega arith
most_le (Frame left ∷ sources) = omega (arith, most_le sources)
most_le (Union supply ∷ sources) = omega (arith, most_le sources)
most_le (ReProject supply ∷ sources) = omega (arith, most_le sources)

pub source_le : (source : PhysSource) → deep-PhysSource source ≤ depth_of source + 1
source_le (Frame left) = omega arith
source_le (Union supply) = omega arith
source_le (ReProject supply) = omega arith
