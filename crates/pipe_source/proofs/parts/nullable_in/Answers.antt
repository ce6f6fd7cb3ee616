use Rattle.pipe_source.proofs.PartRows.{part_read}
use Rattle.pipe_source.proofs.parts.nullable_in.Goals as goal

pub returns : goal.returns
returns g c = part_read c.args.column.now c.args.i c.at.result c.index-column-i.result c.requires c.at.ensures c.index-column-i.is
