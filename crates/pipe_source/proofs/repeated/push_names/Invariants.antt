use Rattle.std.proofs.Common.{◌≡◌, ◌++◌, map, take}
use Rattle.pipe_schema.specs.Cell.{string_cell}
use Rattle.pipe_source.specs.Unpivots.{name_cell}
use Rattle.pipe_source.proofs.repeated.push_names.Given as goal

abbrev pub invariant-loop-name : goal.invariant-loop-name
invariant-loop-name l = map string_cell l.column ≡ map string_cell l.initial.column ++ map name_cell (take l.name-index l.names)
