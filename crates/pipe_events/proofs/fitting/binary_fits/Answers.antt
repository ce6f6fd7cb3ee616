use Rattle.std.proofs.Common.{refl}
use Rattle.pipe_schema.specs.Cell.{binary_cell}
use Rattle.pipe_schema.specs.declared.data_type.DataType.TheVariants as dtype
use Rattle.pipe_events.proofs.FitLemmas.{values-fit}
use Rattle.pipe_events.proofs.fitting.binary_fits.Goals as goal

pub returns : goal.returns
returns c =
    values-fit dtype.Binary binary_cell refl (λ x. refl) c.args.column.now c.as_binary.result (λ column. column.now) c.requires c.as_binary.ensures.typed c.as_binary.ensures.cells
