use Rattle.std.proofs.Common.{◌<◌, length, arith}
use Rattle.pipe_recon.proofs.Classes.{cells_at, four_columns, numbers_in}
use Rattle.pipe_recon.proofs.pairs.right_numbers.Goals as goal

pub returns : goal.returns
returns c =
    let inside : 3 < length c.get_columns.result.now = omega (arith, four_columns c.args.frame.now c.get_columns.result.now c.requires c.get_columns.ensures.columns) in
    numbers_in c.args.frame.now c.get_columns.result.now 3 c.in-Some.numbers.now inside c.get_columns.ensures.rows c.get_columns.ensures.even (cells_at c.get_columns.result.now 3 c.index-get_columns-3.result _ inside c.index-get_columns-3.is c.in-Some.ensures.cells)
