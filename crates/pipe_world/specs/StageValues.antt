-- The stages that the code's ones are.
use Rattle.std.specs.Prelude.{List, map}
use Rattle.pipe_schema.specs.Rows.{Row}
use Rattle.pipe_schema.specs.declared.field.Field.{Field}
use Rattle.pipe_expr.specs.Formula.{formula_of, named_formula_of}
use Rattle.pipe_expr.specs.Projections.{row_named, select_row, hstack_row, function_rows}
use Rattle.pipe_events.specs.Stages as stages
use Rattle.pipe_events.specs.PlanStages.{filtered_row, one_row, sorted_slice}
use Rattle.pipe_pairs.specs.Sides.{join_of}
use Rattle.pipe_world.specs.declared.stage.RowOp.{RowOp}
use Rattle.pipe_world.specs.declared.stage.RowOp.TheVariants as op
use Rattle.pipe_world.specs.declared.stage.JoinStage.{JoinStage}
use Rattle.pipe_world.specs.declared.stage.Stage.{Stage}
use Rattle.pipe_world.specs.declared.stage.Stage.TheVariants as code

-- what goes row by row, over an input of a schema
abbrev pub op_value : List Field → RowOp → Row → List Row
op_value schema (op.Filter predicate) = filtered_row (formula_of predicate.now) schema
op_value schema (op.Columns columns) = one_row (row_named schema columns.now)
op_value schema (op.Select exprs) = one_row (select_row schema (map named_formula_of exprs.now))
op_value schema (op.HStack exprs) = one_row (hstack_row schema (map named_formula_of exprs.now))
op_value schema (op.Function function) = function_rows function.now schema

abbrev pub join_value : JoinStage → stages.JoinStage
join_value j = record {
  join = join_of j.sides;
  right_built = j.right_built;
  probe = j.probe;
  build = j.build;
}

abbrev pub stage_value : Stage → stages.Stage
stage_value (code.Scan rows) = stages.Scan rows.now
stage_value (code.Each input schema row_op) = stages.Each input (op_value schema.now row_op)
stage_value (code.Union inputs) = stages.Union inputs.now
stage_value (code.Sort input schema by options) =
    stages.Sort input (sorted_slice schema.now by.now options.now)
stage_value (code.Joined j) = stages.Joined (join_value j)
