use Rattle.std.proofs.Common.{map, ap, ◌∙◌}
use Rattle.pipe_expr.specs.Formula.{formula_of}
use Rattle.pipe_expr.specs.Joins.{column_names}
use Rattle.pipe_rules.specs.Placements.{placing_of}
use Rattle.pipe_rules.specs.Through.{shown_names, through_sides}
use Rattle.pipe_rules.proofs.ByKind.{join-all}
use Rattle.pipe_rules.proofs.by_node.place_all.Goals as goal

pub returns-in_ok-place_on_join-in-Join : goal.returns-in_ok-place_on_join-in-Join
returns-in_ok-place_on_join-in-Join c =
    let cs = map formula_of c.args.conjuncts in
    let l = c.args.left.now in
    let r = c.args.right.now in
    let options = c.in-Join.options in
    join-all l r c.args.node.now (map placing_of c.in_ok-place_on_join-in-Join.field-0) cs c.in-Join.left c.in-Join.right c.in-Join.left_on c.in-Join.right_on options c.in-Join.is
    (c.in_ok-place_on_join-in-Join.ensures ∙ ap (λ k. map (through_sides options.how l (shown_names l r (column_names (map formula_of k)) options)) cs) c.as_slice-in-Join.ensures)
