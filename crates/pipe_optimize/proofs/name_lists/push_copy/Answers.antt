use Rattle.std.proofs.Common.{◌≡◌, ap, ◌∙◌}
use Rattle.pipe_optimize.specs.Lists.{names_at}
use Rattle.pipe_optimize.specs.Runs.{lists_in}
use Rattle.pipe_optimize.proofs.Runs.{copy-pushed}
use Rattle.pipe_optimize.proofs.name_lists.push_copy.Goals as goal

pub returns-clause-pushed : goal.returns-clause-pushed
returns-clause-pushed c =
    let runs = c.args.runs.now.items in
    let places = c.args.places.now.items in
    let was : c.names_of_list-was.result.now ≡ names_at (lists_in runs places) c.args.list =
    c.names_of_list-was.ensures
    ∙ ap (λ r. names_at (lists_in r c.as_slice-2.result.now) c.args.list) c.as_slice.ensures.value
    ∙ ap (λ p. names_at (lists_in runs p) c.args.list) c.as_slice-2.ensures.value in
    copy-pushed (lists_in runs places) _ _ c.of-run.result c.lengthen.new.names c.args.more c.names_of_list-was.result.now was (c.of-run.ensures ∙ c.in_ok-copied.ensures) c.in_ok-lengthen.ensures.all c.in_ok-push_run.ensures.pushed
