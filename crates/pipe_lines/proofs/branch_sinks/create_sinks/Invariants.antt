use Rattle.std.proofs.Common.{drop}
use Rattle.std.specs.List.{AllByRecursion}
use Rattle.pipe_lines.specs.Parts.{IsSinkThere}
use Rattle.pipe_lines.proofs.PartFacts.{SinksBehind}
use Rattle.pipe_lines.proofs.branch_sinks.create_sinks.Given as goal

abbrev pub invariant-loop-sink : goal.invariant-loop-sink
invariant-loop-sink g l =
    let rest = drop l.sink-index l.sinks in
    let layout = l.layout in
    record {
      there : AllByRecursion (IsSinkThere l.plan) rest;
      behind : SinksBehind l.plan layout.specs.items layout.sinks.items layout.hasher layout.parts l.workers l.sinks rest l.made.items;
    }
