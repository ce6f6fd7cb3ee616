use Rattle.std.proofs.Common.{refl, sym, ◌∙◌}
use Rattle.pipe_value.specs.View.{view}
use Rattle.pipe_why_text.specs.declared.want.Want.TheVariants as want
use Rattle.pipe_why_value.specs.declared.wrong.Wrong.TheVariants as wrong
use Rattle.pipe_value.specs.Items.{elements}
use Rattle.pipe_why_value.proofs.Looks.{empty, looked_none, noted_here, on_ok}
use Rattle.pipe_why_value.proofs.table.look_at_count.Goals as goal

pub returns-then-count-eq0 : goal.returns-then-count-eq0
returns-then-count-eq0 c =
    let d = view c.args.columns.now in
    on_ok c.note.result
    (λ noted t. noted_here (want.Columns, d, t) wrong.NoColumns c.args.walk.now c.note.new.self noted (empty (elements d) (sym c.requires ∙ c.if-count-eq0.true)) (λ root here. (d, t, here)) (λ root here none. tt))
    c.note.ensures.noted

pub returns-else-count-eq0 : goal.returns-else-count-eq0
returns-else-count-eq0 c = λ t. looked_none (want.Columns, view c.args.columns.now, t) c.args.walk.now _ refl refl
