use Rattle.std.specs.Option.{option_copied}
use Rattle.pipe_schema.specs.Cell.{string_cell}
use Rattle.pipe_expr.proofs.Operands.{repeated_cell}
use Rattle.pipe_expr.proofs.byte_strings.texts.Goals as goal

pub returns-in-Constant : goal.returns-in-Constant
returns-in-Constant c = rw c.in-Constant.is (repeated_cell string_cell c.args.rows (option_copied c.text_in.result) c.text_in.ensures)
