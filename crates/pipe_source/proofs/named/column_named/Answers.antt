use Rattle.std.proofs.Common.{rules, ◌<◌, length, arith}
use Rattle.pipe_ops.proofs.NamedFields.{field-placed}
use Rattle.pipe_source.proofs.ColumnsAt.{has-place, column-of-name, placed-at}
use Rattle.pipe_source.proofs.named.column_named.Goals as goal

pub bounds-columns-i : goal.bounds-columns-i
bounds-columns-i c =
    let place = placed-at _ _ c.args.name.now _ c.args.frame.now.schema _ c.index_of.ensures c.as_bytes.ensures.bytes c.schema.ensures.schema c.in-Some.is in
    let there = (field-placed c.args.name.now c.args.frame.now.schema c.in-Some.i place).0 in
    omega (arith, there, c.get_columns-columns.ensures.width)

pub offset_bounds-columns-i : goal.offset_bounds-columns-i
offset_bounds-columns-i c =
    let place = placed-at _ _ c.args.name.now _ c.args.frame.now.schema _ c.index_of.ensures c.as_bytes.ensures.bytes c.schema.ensures.schema c.in-Some.is in
    let there = (field-placed c.args.name.now c.args.frame.now.schema c.in-Some.i place).0 in
    let less : c.in-Some.i < length c.get_columns-columns.result.now = omega (arith, there, c.get_columns-columns.ensures.width) in
    search rules

pub unreachable-requires : goal.unreachable-requires
unreachable-requires c =
    has-place c.args.name.now c.args.frame.now.schema c.requires
    (placed-at _ _ c.args.name.now _ c.args.frame.now.schema _ c.index_of.ensures c.as_bytes.ensures.bytes c.schema.ensures.schema c.in-None.is)

pub returns : goal.returns
returns c =
    column-of-name c.args.frame.now c.get_columns-columns.result.now c.args.name.now c.in-Some.i c.index-columns-i.result c.get_columns-columns.ensures.columns
    (placed-at _ _ c.args.name.now _ c.args.frame.now.schema _ c.index_of.ensures c.as_bytes.ensures.bytes c.schema.ensures.schema c.in-Some.is)
    c.index-columns-i.is
