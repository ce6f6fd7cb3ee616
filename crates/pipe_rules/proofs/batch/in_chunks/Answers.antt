use Rattle.std.proofs.Common.{◌++◌, map, ap, sym, subst, ◌∙◌}
use Rattle.std.specs.List.{AllByRecursion}
use Rattle.pipe_expr.specs.Formula.{formula_of}
use Rattle.pipe_rules.specs.Reach.{formulas_in_chunks, IsChunkOver}
use Rattle.pipe_rules.proofs.batch.in_chunks.Goals as goal

pub chunks_behind-requires : goal.chunks_behind-requires
chunks_behind-requires c = subst (AllByRecursion (IsChunkOver c.args.schema.now)) (sym c.new-none.ensures) tt

pub returns-clause-same : goal.returns-clause-same
returns-clause-same c = c.in_ok-all.ensures.same ∙ ap (λ l. formulas_in_chunks l ++ map formula_of c.args.conjuncts) c.new-none.ensures
