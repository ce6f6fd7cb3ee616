use Rattle.std.proofs.Common.{◌∙◌, arith}
use Rattle.std.proofs.lemmas.List.{length-set}
use Rattle.pipe_rows.proofs.DenseLemmas.{cell_whole}
use Rattle.pipe_rows.proofs.fixed_width.write_cell.Goals as goal

pub returns-clause-bytes : goal.returns-clause-bytes
returns-clause-bytes g c =
    cell_whole c.args.cell.now c.write_value.new.target 1 _ (omega (arith, c.requires)) (omega (arith, c.requires, length-set c.args.cell.now 0 1)) ∙ c.write_value.ensures.bytes
