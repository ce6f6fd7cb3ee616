use Rattle.std.proofs.Common.{◌≡◌, ◌++◌, ◌∷◌, [], subst}
use Rattle.std.specs.Prelude.{OnOk}
use Rattle.pipe_optimize.specs.Lists.{names_at}
use Rattle.pipe_optimize.specs.Runs.{lists_in}
use Rattle.pipe_optimize.proofs.name_lists.NameLists.push_behind.Goals as goal

pub push_after-requires : goal.push_after-requires
push_after-requires c = c.self.invariant

pub invariant_of-self : goal.invariant_of-self
invariant_of-self c = c.push_after.ensures.within

pub returns : goal.returns
returns c = subst (λ v. OnOk c.push_after.result (lists_in c.push_after.new.runs.items c.push_after.new.places.items ≡ v ++ (names_at v c.args.list ++ c.args.more) ∷ [])) c.self.view_is c.push_after.ensures.pushed
