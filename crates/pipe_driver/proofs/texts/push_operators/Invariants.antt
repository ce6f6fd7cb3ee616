use Rattle.std.proofs.Common.{◌≡◌, ◌++◌, map, drop}
use Rattle.std.specs.Prelude.{string_bytes}
use Rattle.pipe_plan.specs.Node.{node_of}
use Rattle.pipe_driver.specs.Texts.{operator_texts}
use Rattle.pipe_driver.proofs.texts.push_operators.Given as goal

abbrev pub invariant-loop-n : goal.invariant-loop-n
invariant-loop-n l = string_bytes l.text ++ operator_texts (map node_of l.nodes) (drop l.n-index l.operators) ≡ string_bytes l.initial.text ++ operator_texts (map node_of l.nodes) l.operators
