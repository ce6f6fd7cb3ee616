use Rattle.std.proofs.Common.{◌≡◌, ◌++◌, map}
use Rattle.pipe_value.specs.Read.{filled_data}
use Rattle.pipe_value.specs.View.{view}
use Rattle.pipe_value.proofs.read.Filled.of.Given as goal

abbrev pub invariant-loop-value : goal.invariant-loop-value
invariant-loop-value l = filled_data l.filled ++ map view l.value-iterator.rest.items ≡ map view l.initial.value-iterator.rest.items
