use Rattle.std.proofs.Common.{◌≡◌, true, Some, length, map, replicate, ap, sym, ◌∙◌}
use Rattle.pipe_column.specs.Column.{nullables}
use Rattle.pipe_column.proofs.AllThere.{nullables-there}
use Rattle.pipe_column.proofs.column.Column.values_without_nulls.Goals as goal

pub returns-in-All : goal.returns-in-All
returns-in-All g c =
    let marks : replicate c.in-All.field-0 true ≡ c.self.inside.validity = rw c.in-All.is at c.lent.ensures in
    ap (λ xs. map (λ x. Some x) xs) c.as_slice.ensures
    ∙ sym (nullables-there c.in-All.field-0 c.self.inside.values (ap (λ l. length l) marks ∙ c.self.invariant))
    ∙ ap (λ l. nullables l c.self.inside.values) marks
    ∙ c.self.view_is
