use Rattle.std.proofs.Common.{◌≡◌, filter, map, ap, ◌∙◌}
use Rattle.pipe_schema.specs.Schema.{has_name}
use Rattle.pipe_expr.specs.Formula.{named_formula_of}
use Rattle.pipe_expr.specs.Projections.{expr_name}
use Rattle.pipe_rules.specs.Needs.{needed_exprs, columns_read}
use Rattle.pipe_optimize.proofs.Shared.{read-shared}
use Rattle.pipe_optimize.proofs.reads.columns_read.Goals as goal

pub returns : goal.returns
returns c =
    let exprs = map named_formula_of c.args.exprs.now in
    let needed = c.args.needed.now in
    let own : c.as_slice.result.now ≡ map expr_name exprs = c.as_slice.ensures ∙ c.in_ok-own.ensures in
    let few : c.in_ok-index.index ≡ filter (has_name (map expr_name exprs)) needed =
    c.in_ok-index.ensures ∙ c.as_slice-2.ensures ∙ c.in_ok-shared.ensures ∙ ap (λ l. filter (has_name l) needed) own in
    read-shared needed exprs c.in_ok-read.read (c.in_ok-read.ensures ∙ ap (λ w. columns_read (needed_exprs (has_name w) exprs)) few)
