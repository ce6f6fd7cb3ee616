use Rattle.std.proofs.Common.{◌≡◌, map, false}
use Rattle.pipe_plan.specs.Node.{node_of}
use Rattle.pipe_plain.specs.Tables.{table}
use Rattle.pipe_plan.specs.Under.{reaches_at}
use Rattle.pipe_plain.proofs.under.reaching.Given as goal

abbrev pub invariant-loop-k : goal.invariant-loop-k
invariant-loop-k l = l.marks.items ≡ table false (reaches_at (map node_of l.nodes) l.n) l.k
