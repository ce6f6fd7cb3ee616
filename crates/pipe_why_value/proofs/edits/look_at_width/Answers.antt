use Rattle.std.proofs.Common.{sym}
use Rattle.pipe_value.specs.View.{view}
use Rattle.pipe_why_text.specs.declared.want.Foreign.TheVariants as foreign
use Rattle.pipe_why_text.specs.declared.want.Want.TheVariants as want
use Rattle.pipe_why_value.proofs.Looks.{noted_here, on_ok}
use Rattle.pipe_why_value.proofs.edits.look_at_width.Goals as goal

pub returns-then-cells-columns : goal.returns-then-cells-columns
returns-then-cells-columns c =
    let d = view c.args.row.now in
    on_ok c.note.result
    (λ noted t. noted_here (want.Foreign foreign.Row, d, t) _ c.args.walk.now c.note.new.self noted (sym c.requires, c.if-cells-columns.true) (λ root here. (d, t, here)) (λ root here none. tt))
    c.note.ensures.noted
