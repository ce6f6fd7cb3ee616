use Rattle.std.proofs.Common.{◌∙◌, ap, map, [], ◌∷◌, ◌++◌}
use Rattle.pipe_column.specs.Columns.{height_of}
use Rattle.pipe_column.specs.Series.{named_cells}
use Rattle.worked_frames.proofs.NumberFrames.{size-one, size-fixed}
use Rattle.worked_frames.proofs.frames.numbers.numbers.Goals as goal

pub returns-clause-size : goal.returns-clause-size
returns-clause-size g c =
    let name = c.in_ok-from_str.field-0 in
    let column = named_cells name g.T.Native.dtype_of (map g.T.Native.cell c.in_ok-column.column) in
    let columns = c.into_vec.ensures ∙ c.in_ok-push.ensures.ok ∙ ap (λ l. l ++ c.from_column.result ∷ []) c.new-columns.ensures ∙ ap (λ s. s ∷ []) c.from_column.ensures in
    size-one c.new.result c.into_vec.result.items (height_of c.into_vec.result.items) column _ c.new.ensures.schema c.new.ensures.rows c.new.ensures.even columns (size-fixed name g.T.Native.dtype_of g.T.Native.cell c.in_ok-column.column c.args.rows g.met.T.Native.missing g.met.T.Native.fixed c.in_ok-column.ensures)
