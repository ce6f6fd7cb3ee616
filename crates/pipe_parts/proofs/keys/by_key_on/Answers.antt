use Rattle.std.proofs.Common.{sym, subst, ◌∙◌}
use Rattle.pipe_parts.specs.Sides.{IsKeyedBy}
use Rattle.pipe_parts.proofs.Steps.{names-same}
use Rattle.pipe_parts.proofs.keys.by_key_on.Goals as goal

pub returns-then-are_same-clause-left : goal.returns-then-are_same-clause-left
returns-then-are_same-clause-left c =
    let same = names-same c.args.columns.now c.as_slice.result.now (sym c.are_same.ensures ∙ c.if-are_same.true) in
    let names = same ∙ c.as_slice.ensures ∙ c.in_ok-names.ensures in
    subst (λ l. IsKeyedBy c.args.key l c.in_ok-by_key.field-0) (sym names) c.in_ok-by_key.ensures.left
