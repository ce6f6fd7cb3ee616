use Rattle.std.proofs.Common.{◌∙◌, ap, sym}
use Rattle.std.specs.Prelude.{sum_by}
use Rattle.pipe_column.specs.Sizes.{column_size}
use Rattle.pipe_frame.proofs.Sizes.{size-columns}
use Rattle.pipe_frame.proofs.data_frame.DataFrame.estimated_size.Goals as goal

pub size_of_columns-requires : goal.size_of_columns-requires
size_of_columns-requires c = rw c.as_slice.ensures.value (rw (size-columns c.self.inside.columns.items c.self.inside.height c.self.view_is c.self.invariant.2) at c.requires)

pub returns : goal.returns
returns c = c.size_of_columns.ensures ∙ ap (sum_by column_size) c.as_slice.ensures.value ∙ sym (size-columns c.self.inside.columns.items c.self.inside.height c.self.view_is c.self.invariant.2)
