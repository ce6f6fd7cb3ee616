use Rattle.std.proofs.Common.{drop}
use Rattle.std.specs.List.{AllByRecursion}
use Rattle.pipe_lines.specs.Parts.{IsGoneThrough}
use Rattle.pipe_lines.proofs.PartFacts.{OperatorsBehind}
use Rattle.pipe_lines.proofs.branch_operators.create_operators.Given as goal

abbrev pub invariant-loop-n : goal.invariant-loop-n
invariant-loop-n g l =
    let rest = drop l.n-index l.nodes in
    record {
      through : AllByRecursion (IsGoneThrough l.plan) rest;
      behind : OperatorsBehind l.plan l.specs l.nodes rest l.made.items;
    }
