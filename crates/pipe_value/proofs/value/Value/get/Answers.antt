use Rattle.std.proofs.Common.{option_map, sym, ap, ◌∙◌}
use Rattle.serde_json.specs.Find.{get}
use Rattle.pipe_value.specs.View.{view}
use Rattle.pipe_value.proofs.Views.{view_of_ref, view-lookup, view-Object}
use Rattle.pipe_value.proofs.value.Value.get.Goals as goal

pub returns-in-Object : goal.returns-in-Object
returns-in-Object c =
    view_of_ref c.get.result ∙ ap (option_map view) c.get.ensures.value ∙ view-lookup c.args.name.now c.in-Object.members.entries
    ∙ ap (get c.args.name.now) (sym (ap view c.in-Object.is ∙ view-Object c.in-Object.members))
