use Rattle.std.proofs.Common.{rules, ◌≡◌, ap, get_or}
use Rattle.pipe_column.specs.Columns.{field_of}
use Rattle.pipe_frame.specs.Frame.{columns_of}
use Rattle.pipe_column.specs.Series.{Cells}
use Rattle.pipe_frame.proofs.Stacks.{same_dtype, cells_more}
use Rattle.pipe_frame.proofs.stacking.append_cells.Goals as goal

pub append-requires : goal.append-requires
append-requires c =
    let at : c.chunk-item.result ≡ get_or c.args.chunks.now c.loop-chunk.chunk-index c.chunk-item.result = search rules in
    let other : c.index-get_columns-k.result ≡ get_or (columns_of c.chunk-item.result.frame) c.args.k c.index-get_columns-k.result = search rules in
    same_dtype (field_of c.args.column.now) c.loop-chunk.column c.index-get_columns-k.result c.args.k c.loop-chunk.chunk-index c.args.chunks.now c.chunk-item.result c.requires (search rules) at other (ap (λ (q : Cells). q.dtype) c.loop-chunk.invariant)

pub loop-chunk-preserved : goal.loop-chunk-preserved
loop-chunk-preserved c =
    let at : c.chunk-item.result ≡ get_or c.args.chunks.now c.loop-chunk.chunk-index c.chunk-item.result = search rules in
    let other : c.index-get_columns-k.result ≡ get_or (columns_of c.chunk-item.result.frame) c.args.k c.index-get_columns-k.result = search rules in
    cells_more c.args.column.now c.loop-chunk.column c.append.new.self c.index-get_columns-k.result c.args.k c.loop-chunk.chunk-index c.args.chunks.now c.chunk-item.result c.requires (search rules) at other c.loop-chunk.invariant c.in_ok-append.ensures.ok
