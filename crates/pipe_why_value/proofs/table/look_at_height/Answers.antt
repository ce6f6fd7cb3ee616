use Rattle.std.proofs.Common.{sym, ap, ◌∙◌, Some}
use Rattle.pipe_value.specs.View.{view}
use Rattle.pipe_why_text.specs.declared.want.Want.TheVariants as want
use Rattle.pipe_why_value.proofs.Looks.{item_there, on_ok}
use Rattle.pipe_why_value.proofs.table.look_at_height.Goals as goal

pub returns : goal.returns
returns c =
    let d = view c.args.columns.now in
    on_ok c.note_at.result
    (λ looked t good. looked (want.Columns, d, t) (view c.value.result.now) (view c.in-Some.values.now)
    (item_there d c.args.i c.requires ∙ ap Some (sym (c.value.ensures ∙ c.in_ok-column.ensures)))
    (sym c.in-Some.ensures) good
    (λ steps. (sym c.in_ok-cells.ensures, c.if-cells-wanted.false)) (λ root above here. tt))
    c.note_at.ensures
