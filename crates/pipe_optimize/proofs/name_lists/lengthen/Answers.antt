use Rattle.std.proofs.Common.{rules, ◌≡◌, ◌∷◌, refl, sym, ◌∙◌, append-nil}
use Rattle.pipe_optimize.proofs.Steps.{rest-next}
use Rattle.pipe_optimize.proofs.Runs.{more-next}
use Rattle.pipe_optimize.proofs.name_lists.lengthen.Goals as goal

pub loop-name-init : goal.loop-name-init
loop-name-init c = (sym (append-nil c.args.names.now), refl)

pub loop-name-preserved : goal.loop-name-preserved
loop-name-preserved c =
    let step : c.loop-name.name-iterator.rest.items ≡ c.in-Some.name ∷ c.next.new.self.rest.items = search rules in (
      more-next c.args.names.now c.loop-name.yielded c.in-Some.name c.loop-name.names c.push.new.self c.loop-name.invariant.0 c.in_ok-push.ensures.ok,
      rest-next c.loop-name.yielded c.next.new.self.rest.items c.loop-name.name-iterator.rest.items c.into_iter-name-iterator.result.rest.items c.in-Some.name c.loop-name.invariant.1 step,
    )

pub returns-in_err-push-clause-grown : goal.returns-in_err-push-clause-grown
returns-in_err-push-clause-grown c = record { more = c.loop-name.yielded; is = c.in_err-push.ensures.err ∙ c.loop-name.invariant.0 }

pub returns-clause-grown : goal.returns-clause-grown
returns-clause-grown c = record { more = c.loop-name.yielded; is = c.loop-name.invariant.0 }
