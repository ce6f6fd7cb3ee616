use Rattle.std.proofs.Common.{rules, ◌≡◌, ◌∷◌, get_or, refl}
use Rattle.pipe_view.proofs.TypedEdits.{one_more}
use Rattle.pipe_view.proofs.rows.row_of.Goals as goal

pub loop-field-preserved : goal.loop-field-preserved
loop-field-preserved c =
    let field = c.field-item.result in
    let at : field ≡ get_or c.args.fields.now c.loop-field.field-index field = search rules in
    let step : c.loop-field.rest.rest.items ≡ c.in-Some.cell ∷ c.next.new.self.rest.items = search rules in
    one_more c.args.fields.now c.args.cells c.loop-field.rest.rest.items c.next.new.self.rest.items c.loop-field.field-index _ c.loop-field.row c.push.new.self c.in-Some.cell c.in_ok-cell.cell field
    c.loop-field-test.true at c.loop-field.invariant step c.in_ok-cell.ensures refl c.in_ok-push.ensures.ok
