use Rattle.std.proofs.Common.{ap, ◌∙◌}
use Rattle.pipe_schema.specs.Schema.{has_name}
use Rattle.pipe_optimize.specs.Lists.{names_at}
use Rattle.pipe_optimize.specs.Runs.{lists_in}
use Rattle.pipe_optimize.proofs.name_lists.NameLists.has.Goals as goal

pub returns : goal.returns
returns c =
    c.has_in_list.ensures
    ∙ ap (λ r. has_name (names_at (lists_in r c.as_slice-2.result.now) c.args.list) c.args.name.now) c.as_slice.ensures.value
    ∙ ap (λ p. has_name (names_at (lists_in c.self.inside.runs.items p) c.args.list) c.args.name.now) c.as_slice-2.ensures.value
    ∙ ap (λ v. has_name (names_at v c.args.list) c.args.name.now) c.self.view_is
