use Rattle.std.proofs.Common.{refl}
use Rattle.pipe_schema.specs.Cell.{string_cell}
use Rattle.pipe_schema.specs.declared.data_type.DataType.TheVariants as dtype
use Rattle.pipe_events.proofs.FitLemmas.{values-fit}
use Rattle.pipe_events.proofs.fitting.string_fits.Goals as goal

pub returns : goal.returns
returns c =
    values-fit dtype.String string_cell refl (λ x. refl) c.args.column.now c.as_string.result (λ column. column.now) c.requires c.as_string.ensures.typed c.as_string.ensures.cells
