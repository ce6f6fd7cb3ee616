use Rattle.std.proofs.Common.{◌∙◌, map, refl}
use Rattle.pipe_expr.specs.Formula.{formula_of}
use Rattle.pipe_check.proofs.RightFields.{right_fields}
use Rattle.pipe_check.proofs.joined.paired_fields.Goals as goal

pub returns : goal.returns
returns c = λ left_on.
    right_fields c.args.left.now c.args.right.now left_on (map formula_of c.args.right_on.now) c.args.options.now c.in_ok-keys.keys c.args.left.now c.in_ok-fields.fields _
    (rw c.fields-3.ensures at c.in_ok-push_right_fields.ensures) (c.in_ok-fields.ensures ∙ c.fields.ensures) refl (c.in_ok-keys.ensures ∙ c.as_slice.ensures ∙ c.in_ok-names.ensures)
