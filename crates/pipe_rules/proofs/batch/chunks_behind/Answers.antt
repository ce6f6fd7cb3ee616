use Rattle.std.proofs.Common.{◌++◌, [], map, sym, subst}
use Rattle.pipe_expr.specs.Formula.{formula_of}
use Rattle.pipe_rules.specs.Reach.{formulas_in_chunks, AreChunked}
use Rattle.pipe_rules.proofs.Reaches.{behind-same, behind-over}
use Rattle.pipe_rules.proofs.batch.chunks_behind.Goals as goal

pub returns-clause-same : goal.returns-clause-same
returns-clause-same c =
    let fields = c.args.schema.now in
    let first = formulas_in_chunks c.args.chunks in
    let went : AreChunked fields first c.args.chunks [] → AreChunked fields (first ++ map formula_of c.args.behind) c.in_ok-all.all [] = λ w. c.in_ok-all.ensures first
    (subst (λ l. AreChunked fields first l c.take_last-open.result) (sym c.from_vec.ensures)
    (c.take_last-open.ensures fields first (subst (λ l. AreChunked fields first l []) (sym c.into_vec-closed.ensures) w))) in
    behind-same fields c.args.chunks c.in_ok-all.all (map formula_of c.args.behind) c.requires went

pub returns-clause-over : goal.returns-clause-over
returns-clause-over c =
    let fields = c.args.schema.now in
    let first = formulas_in_chunks c.args.chunks in
    let went : AreChunked fields first c.args.chunks [] → AreChunked fields (first ++ map formula_of c.args.behind) c.in_ok-all.all [] = λ w. c.in_ok-all.ensures first
    (subst (λ l. AreChunked fields first l c.take_last-open.result) (sym c.from_vec.ensures)
    (c.take_last-open.ensures fields first (subst (λ l. AreChunked fields first l []) (sym c.into_vec-closed.ensures) w))) in
    behind-over fields c.args.chunks c.in_ok-all.all (map formula_of c.args.behind) c.requires went
