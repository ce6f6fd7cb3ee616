use Rattle.std.proofs.Common.{ap}
use Rattle.pipe_ops.proofs.NamedFields.{reprojected_by}
use Rattle.pipe_ops.proofs.reproject.reproject_chunk.Goals as goal

pub returns-in-Ok-clause-ok : goal.returns-in-Ok-clause-ok
returns-in-Ok-clause-ok c =
    ap (λ frame. record { chunk_index = c.args.chunk.now.chunk_index; frame = frame })
    (reprojected_by c.args.schema.now c.fields.result.now c.in_ok-names.names c.as_slice.result.now c.args.chunk.now.frame c.in-Ok.frame c.get_columns.result.now c.fields.ensures.fields c.in_ok-names.ensures c.as_slice.ensures c.in-Ok.ensures.ok c.in-Ok.ensures.good c.get_columns.ensures.width c.get_columns.ensures.rows c.requires)
