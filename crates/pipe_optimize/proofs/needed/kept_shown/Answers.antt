use Rattle.std.proofs.Common.{◌≡◌, filter, map, ap, ◌∙◌}
use Rattle.pipe_schema.specs.Schema.{has_name}
use Rattle.pipe_expr.specs.Formula.{formula_of}
use Rattle.pipe_rules.specs.Needs.{keys_read}
use Rattle.pipe_optimize.specs.Sides.{right_needed}
use Rattle.pipe_optimize.proofs.Shared.{needed-shown}
use Rattle.pipe_optimize.proofs.needed.kept_shown.Goals as goal

pub returns : goal.returns
returns c =
    let left = c.args.left.now in
    let keys = c.args.keys.now in
    let right = c.args.right.now in
    let options = c.args.options.now in
    let needed = c.args.needed.now in
    let read = keys_read (map formula_of c.args.right_on.now) in
    let shown = c.push_shown_names.new.names in
    let few : c.in_ok-wanted.wanted ≡ filter (has_name shown) needed =
    c.in_ok-wanted.ensures ∙ c.as_slice-2.ensures ∙ c.in_ok-few.ensures ∙ ap (λ l. filter (has_name l) needed) c.as_slice.ensures in
    let columns : c.in_ok-read.read ≡ read = c.in_ok-read.ensures ∙ c.as_slice-3.ensures ∙ c.in_ok-columns.ensures in
    needed-shown left right keys read needed c.new-shown.result shown options c.in_ok-kept.kept c.new-shown.ensures c.in_ok-push_shown_names.ensures
    (c.in_ok-kept.ensures
    ∙ ap (λ r. filter (right_needed left keys r c.in_ok-wanted.wanted options) right) columns
    ∙ ap (λ w. filter (right_needed left keys read w options) right) few)
