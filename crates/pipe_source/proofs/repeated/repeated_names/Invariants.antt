use Rattle.std.proofs.Common.{◌≡◌, map}
use Rattle.pipe_schema.specs.Cell.{string_cell}
use Rattle.pipe_source.specs.Unpivots.{repeated_cells}
use Rattle.pipe_source.proofs.repeated.repeated_names.Given as goal

abbrev pub invariant-loop : goal.invariant-loop
invariant-loop l = map string_cell l.column ≡ repeated_cells l.names l.counter
