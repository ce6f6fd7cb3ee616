-- Pipelines that are made for so many workers, one after another.
use Rattle.std.proofs.Common.{ℕ, List, [], ◌∷◌, ◌++◌}
use Rattle.std.specs.List.{AllByRecursion}
use Rattle.pipe_lines.specs.Cuts.{IsLineFor}
use Rattle.pipe_lines.specs.declared.pipe_line.PipeLine.{PipeLine}

-- one more
pub one_made : {H : Type 0} (workers : ℕ) (pipelines : List (PipeLine H)) (next : PipeLine H) → AllByRecursion (IsLineFor workers) pipelines → IsLineFor workers next → AllByRecursion (IsLineFor workers) (pipelines ++ next ∷ [])
one_made workers [] next are is = (is, tt)
one_made workers (p ∷ ps) next are is = (are.0, one_made workers ps next are.1 is)
