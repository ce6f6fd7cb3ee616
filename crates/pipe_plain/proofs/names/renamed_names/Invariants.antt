use Rattle.std.proofs.Common.{◌≡◌, map, take}
use Rattle.pipe_plan.specs.Faults.{existing_of}
use Rattle.pipe_plain.proofs.names.renamed_names.Given as goal

abbrev pub invariant-loop-pair : goal.invariant-loop-pair
invariant-loop-pair l = l.names ≡ map existing_of (take l.pair-index l.pairs)
