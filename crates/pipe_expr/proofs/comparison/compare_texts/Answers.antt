use Rattle.std.proofs.Common.{ap, map, ◌∙◌}
use Rattle.pipe_schema.specs.Cell.{boolean_cell}
use Rattle.pipe_expr.specs.Operands.{byte_strings}
use Rattle.pipe_expr.proofs.ComparedCells.{compared-string}
use Rattle.pipe_expr.proofs.comparison.compare_texts.Goals as goal

pub returns-clause-cells : goal.returns-clause-cells
returns-clause-cells g c = compared-string g.C.Test.test (record {
  a = byte_strings c.texts.result;
  b = byte_strings c.texts-2.result;
  is_left = c.texts.ensures;
  is_right = c.texts-2.ensures;
  is_zipped = ap (λ s. s.cells) c.from_column.ensures ∙ ap (map boolean_cell) c.in_ok-column.ensures;
})
