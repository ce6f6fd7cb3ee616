use Rattle.std.proofs.Common.{◌≡◌, ◌∙◌, ap}
use Rattle.std.specs.List.{flat_map}
use Rattle.pipe_expr.specs.Formula.{formula_of}
use Rattle.pipe_expr.specs.Projections.{passes}
use Rattle.pipe_world.specs.StageValues.{op_value}
use Rattle.pipe_world.proofs.RowByRow.{by_test}
use Rattle.pipe_world.proofs.operators.operated.Goals as goal

pub returns-in-Filter : goal.returns-in-Filter
returns-in-Filter c =
    let schema = c.args.schema.now in
    let rows = c.args.rows.now in
    let e = ap (λ o. flat_map (op_value schema o) rows) c.in-Filter.is ∙ by_test (passes (formula_of c.in-Filter.predicate.now) schema) rows in
    rw e c.filtered.ensures
