use Rattle.std.proofs.Common.{◌≡◌, sym, ap, ◌∙◌}
use Rattle.std.specs.Prelude.{is_some, slice_index_or}
use Rattle.std.specs.Option.{option_copied}
use Rattle.serde_json.specs.Data.{null}
use Rattle.pipe_value.specs.Items.{elements}
use Rattle.pipe_value.specs.View.{view}
use Rattle.pipe_schema.specs.declared.data_type.DataType.{DataType}
use Rattle.pipe_job.specs.Shape.{is_cell}
use Rattle.pipe_why_value.proofs.Looks.{is_some_mapped, text_found}
use Rattle.pipe_why_value.proofs.cells.is_cell_at.Goals as goal

pub returns-in-String-clause-yes : goal.returns-in-String-clause-yes
returns-in-String-clause-yes c = λ some.
    let d = slice_index_or (elements (view c.args.values.now)) c.args.row null in
    ap (λ (t : DataType). is_cell t d) c.in-String.is
    ∙ text_found d (ap is_some (sym c.item_as_nullable_str.ensures) ∙ is_some_mapped option_copied c.item_as_nullable_str.result ∙ sym c.is_some.ensures ∙ some)
