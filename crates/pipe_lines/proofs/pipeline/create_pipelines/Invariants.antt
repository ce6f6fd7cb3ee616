use Rattle.std.proofs.Common.{drop, map}
use Rattle.std.specs.List.{AllByRecursion}
use Rattle.pipe_convert.specs.Laws.{IsBranch}
use Rattle.pipe_lines.specs.Cuts.{way_in, IsLineFor}
use Rattle.pipe_lines.specs.Lines.{HasEnds}
use Rattle.pipe_lines.proofs.LineFacts.{LinesBehind}
use Rattle.pipe_lines.proofs.pipeline.create_pipelines.Given as goal

abbrev pub invariant-loop-branch : goal.invariant-loop-branch
invariant-loop-branch g l =
    let rest = drop l.branch-index l.branches in
    let layout = l.layout in
    record {
      are : AllByRecursion (IsBranch l.plan) rest;
      ends : AllByRecursion HasEnds rest;
      made_for : AllByRecursion (IsLineFor l.workers) l.lines.items;
      behind : LinesBehind l.plan layout.specs.items layout.sinks.items layout.hasher layout.parts l.branches rest (map way_in l.lines.items);
    }
