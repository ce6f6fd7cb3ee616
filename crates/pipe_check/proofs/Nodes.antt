-- The nodes of a plan are those of the code.
use Rattle.std.proofs.Common.{◌≡◌, ℕ, zero, suc, ◌<◌, List, [], ◌∷◌, map, length, get_or, ap, sym, arith}
use Rattle.pipe_plan.specs.Node.{node_of}
use Rattle.pipe_plan.specs.Under.{node_at}
use Rattle.pipe_plan.specs.declared.ir.IR.{IR}

pub node-there : (nodes : List IR) (n : ℕ) (x : IR) → n < length nodes → x ≡ get_or nodes n x → node_at (map node_of nodes) n ≡ node_of x
node-there [] n x lt is = absurd (omega arith)
node-there (y ∷ ys) zero x lt is = ap node_of (sym is)
node-there (y ∷ ys) (suc n) x lt is = node-there ys n x (omega arith) is
