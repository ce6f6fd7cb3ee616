use Rattle.std.proofs.Common.{rules, ◌≡◌, List, ap, sym, ◌∙◌}
use Rattle.pipe_schema.specs.declared.field.Field.{Field}
use Rattle.pipe_value.specs.View.{view}
use Rattle.pipe_view.specs.declared.row_edit.RowEdit.{RowEdit}
use Rattle.pipe_view.specs.EditSpelling.{are_edits}
use Rattle.pipe_view.proofs.Unread.{edits_unread, no_edits}
use Rattle.pipe_view.proofs.reading.parts_of.Goals as goal

pub returns-in_err-edits : goal.returns-in_err-edits
returns-in_err-edits c =
    let raw = c.in_ok-version.field-0 in
    let left : c.fields.result.now ≡ raw.left.schema = search rules in
    let right : c.fields-2.result.now ≡ raw.right.schema = search rules in
    edits_unread {X = List RowEdit} (view c.args.value.now) _ (λ _. Unit {0}) c.in_err-edits.field-0.0 c.from_residual-in_err-edits.result c.in_err-edits.ensures c.from_residual-in_err-edits.ensures.1
    (λ h. no_edits (view c.args.value.now) raw c.in_ok-version.ensures.0 c.in_ok-version.ensures.1
    (ap (λ (x : List Field). are_edits x raw.right.schema raw.edits) (sym left)
    ∙ ap (λ (x : List Field). are_edits c.fields.result.now x raw.edits) (sym right)
    ∙ h))
