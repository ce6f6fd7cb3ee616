use Rattle.std.proofs.Common.{◌≡◌, ◌++◌, map, drop}
use Rattle.std.specs.Prelude.{string_bytes}
use Rattle.pipe_plan.specs.Node.{node_of}
use Rattle.pipe_driver.specs.Texts.{sink_texts}
use Rattle.pipe_driver.proofs.texts.push_sinks.Given as goal

abbrev pub invariant-loop-sink : goal.invariant-loop-sink
invariant-loop-sink l = string_bytes l.text ++ sink_texts (map node_of l.nodes) l.operators l.first (drop l.sink-index l.sinks) ≡ string_bytes l.initial.text ++ sink_texts (map node_of l.nodes) l.operators 0 l.sinks
