use Rattle.std.proofs.Common.{◌≡◌, map, ap, ◌∙◌}
use Rattle.pipe_expr.specs.Formula.{formula_of}
use Rattle.pipe_rules.specs.Placements.{placing_of}
use Rattle.pipe_rules.specs.Through.{old_pair, through_names}
use Rattle.pipe_rules.proofs.ByKind.{rename-all}
use Rattle.pipe_rules.proofs.function.place_on_function.Goals as goal

pub returns-in_ok-place_each-in-Rename : goal.returns-in_ok-place_each-in-Rename
returns-in_ok-place_each-in-Rename c =
    let cs = map formula_of c.args.conjuncts in
    let pairs = c.in-Rename.pairs in
    let input = c.args.input.now in
    let names : c.in_ok-old_names-in-Rename.old_names ≡ map (old_pair pairs) input =
    c.in_ok-old_names-in-Rename.ensures ∙ c.as_slice-in-Rename-2.ensures ∙ c.in_ok-names-in-Rename.ensures
    ∙ ap (λ p. map (old_pair p) input) (c.in_ok-pairs-in-Rename.ensures ∙ c.as_slice-in-Rename.ensures) in
    rename-all input c.args.function.now pairs (map placing_of c.in_ok-place_each-in-Rename.field-0) cs c.in-Rename.is
    (c.in_ok-place_each-in-Rename.ensures ∙ ap (λ l. map (through_names l) cs) names)
