use Rattle.std.proofs.Common.{◌∙◌, ap, sym, Some}
use Rattle.std.specs.List.{flat_map}
use Rattle.pipe_frame.specs.Chunks.{chunk_rows}
use Rattle.pipe_frame.proofs.Stacks.{column_filled, slice_get-columns_of}
use Rattle.pipe_frame.proofs.stacking.stacked_column.Goals as goal

pub returns : goal.returns
returns c =
    let rows = flat_map chunk_rows c.args.chunks.now in
    slice_get-columns_of c.args.schema.now rows c.args.k c.field-field.result.now c.requires.inside c.field-field.ensures
    ∙ ap Some (sym (column_filled c.field-field.result.now c.in_ok-try_clone.field-0 c.in_ok-column.column c.append_cells.new.column c.args.k rows c.in_ok-try_clone.ensures c.in_ok-column.ensures c.in_ok-append_cells.ensures))
