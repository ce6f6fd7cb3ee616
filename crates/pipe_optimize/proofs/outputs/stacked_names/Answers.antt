use Rattle.std.proofs.Common.{◌≡◌, ◌++◌, filter, map, ap, ◌∙◌}
use Rattle.pipe_schema.specs.Schema.{has_name}
use Rattle.pipe_expr.specs.Formula.{named_formula_of}
use Rattle.pipe_expr.specs.Projections.{expr_name}
use Rattle.pipe_optimize.specs.Lists.{names_at}
use Rattle.pipe_optimize.specs.Sides.{fresh_names}
use Rattle.pipe_optimize.proofs.Shared.{fresh-shared}
use Rattle.pipe_optimize.proofs.outputs.stacked_names.Goals as goal

pub returns : goal.returns
returns c =
    let exprs = map named_formula_of c.args.exprs.now in
    let input = names_at c.args.lists.now c.args.input in
    let own : c.as_slice.result.now ≡ map expr_name exprs = c.as_slice.ensures ∙ c.in_ok-own.ensures in
    let few : c.in_ok-index.index ≡ filter (has_name input) (map expr_name exprs) =
    c.in_ok-index.ensures ∙ c.as_slice-2.ensures ∙ c.in_ok-shared.ensures ∙ ap (filter (has_name input)) own in
    fresh-shared input exprs c.new-names.result c.push_fresh_names.new.names (c.in_ok-push_fresh_names.ensures ∙ ap (λ w. c.new-names.result ++ fresh_names w exprs) few)
    ∙ ap (λ l. l ++ fresh_names input exprs) c.new-names.ensures
