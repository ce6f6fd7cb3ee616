use Rattle.std.proofs.Common.{ap, sym, subst, ◌∙◌}
use Rattle.pipe_optimize.specs.Runs.{lists_in, AreWithin}
use Rattle.pipe_optimize.proofs.name_lists.NameLists.note.Goals as goal

pub invariant_of-self : goal.invariant_of-self
invariant_of-self c = subst (λ r. AreWithin r c.self.inside.places.items) (sym c.note_list.ensures) c.self.invariant

pub returns : goal.returns
returns c = ap (λ r. lists_in r c.self.inside.places.items) c.note_list.ensures ∙ c.self.view_is
