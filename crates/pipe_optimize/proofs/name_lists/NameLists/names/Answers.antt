use Rattle.std.proofs.Common.{ap, ◌∙◌}
use Rattle.pipe_optimize.specs.Lists.{names_at}
use Rattle.pipe_optimize.specs.Runs.{lists_in}
use Rattle.pipe_optimize.proofs.name_lists.NameLists.names.Goals as goal

pub returns : goal.returns
returns c =
    c.names_of_list.ensures
    ∙ ap (λ r. names_at (lists_in r c.as_slice-2.result.now) c.args.list) c.as_slice.ensures.value
    ∙ ap (λ p. names_at (lists_in c.self.inside.runs.items p) c.args.list) c.as_slice-2.ensures.value
    ∙ ap (λ v. names_at v c.args.list) c.self.view_is
