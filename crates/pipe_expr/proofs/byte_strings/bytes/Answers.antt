use Rattle.std.specs.Option.{option_copied}
use Rattle.pipe_schema.specs.Cell.{binary_cell}
use Rattle.pipe_expr.proofs.Operands.{repeated_cell}
use Rattle.pipe_expr.proofs.byte_strings.bytes.Goals as goal

pub returns-in-Constant : goal.returns-in-Constant
returns-in-Constant c = rw c.in-Constant.is (repeated_cell binary_cell c.args.rows (option_copied c.bytes_in.result) c.bytes_in.ensures)
