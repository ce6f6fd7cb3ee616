use Rattle.std.proofs.Common.{◌≡◌, ◌++◌, ◌∷◌, [], subst}
use Rattle.std.specs.Prelude.{OnOk}
use Rattle.pipe_optimize.specs.Runs.{lists_in}
use Rattle.pipe_optimize.proofs.name_lists.NameLists.push.Goals as goal

pub push_run-requires : goal.push_run-requires
push_run-requires c = c.self.invariant

pub invariant_of-self : goal.invariant_of-self
invariant_of-self c = c.push_run.ensures.within

pub returns : goal.returns
returns c =
    let made = lists_in c.push_run.new.runs.items c.push_run.new.places.items in
    subst (λ l. OnOk c.push_run.result (made ≡ c.args.self.now ++ l ∷ [])) c.of.ensures
    (subst (λ v. OnOk c.push_run.result (made ≡ v ++ c.of.result ∷ [])) c.self.view_is c.push_run.ensures.pushed)
