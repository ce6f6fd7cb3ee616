use Rattle.std.proofs.Common.{◌≡◌, ◌<◌, ◌++◌, ◌∷◌, [], length, ap, sym, subst, ◌∙◌}
use Rattle.std.specs.Prelude.{OnOk}
use Rattle.pipe_optimize.specs.Lists.{names_at}
use Rattle.pipe_optimize.specs.Runs.{lists_in}
use Rattle.pipe_optimize.proofs.name_lists.push_after.Goals as goal

pub push_longer-requires-clause-there : goal.push_longer-requires-clause-there
push_longer-requires-clause-there c = subst (λ r. c.in-Some.run' < length r) c.as_slice.ensures.value c.in-Some.ensures.there

pub returns-in-Some-clause-pushed : goal.returns-in-Some-clause-pushed
returns-in-Some-clause-pushed c =
    let runs = c.args.runs.now.items in
    let places = c.args.places.now.items in
    let old = lists_in runs places in
    let same : names_at runs c.in-Some.run' ≡ names_at old c.args.list =
    ap (λ r. names_at r c.in-Some.run') (sym c.as_slice.ensures.value)
    ∙ c.in-Some.ensures.same
    ∙ ap (λ r. names_at (lists_in r c.as_slice-2.result.now) c.args.list) c.as_slice.ensures.value
    ∙ ap (λ p. names_at (lists_in runs p) c.args.list) c.as_slice-2.ensures.value in
    subst (λ l. OnOk c.push_longer.result (lists_in c.push_longer.new.runs.items c.push_longer.new.places.items ≡ old ++ (l ++ c.args.more) ∷ [])) same c.push_longer.ensures.pushed
