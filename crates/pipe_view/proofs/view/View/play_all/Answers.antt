use Rattle.std.proofs.Common.{rules, ◌≡◌, ◌++◌, ◌∷◌, ◌∙◌, List}
use Rattle.pipe_view.specs.Played.{IsPlayRefusal}
use Rattle.pipe_view.specs.declared.row_edit.RowEdit.{RowEdit}
use Rattle.pipe_view.proofs.Lists.{next-played, rest-next, stuck-next, wide-next}
use Rattle.pipe_view.proofs.Told.{err-told}
use Rattle.pipe_view.proofs.view.View.play_all.Goals as goal

pub play-requires : goal.play-requires
play-requires c =
    let all : c.into_iter-edit-iterator.result.rest.items ≡ c.args.edits = search rules in
    let step : c.loop-edit.edit-iterator.rest.items ≡ c.in-Some.edit ∷ c.next.new.self.rest.items = search rules in
    wide-next c.args.self.now c.loop-edit.self c.loop-edit.yielded c.next.new.self.rest.items c.loop-edit.edit-iterator.rest.items c.args.edits c.in-Some.edit c.loop-edit.outcomes c.requires c.loop-edit.invariant.0 (c.loop-edit.invariant.1 ∙ all) step

pub returns-in_err-outcome-clause-err : goal.returns-in_err-outcome-clause-err
returns-in_err-outcome-clause-err c =
    let all : c.into_iter-edit-iterator.result.rest.items ≡ c.args.edits = search rules in
    let step : c.loop-edit.edit-iterator.rest.items ≡ c.in-Some.edit ∷ c.next.new.self.rest.items = search rules in
    err-told c.from_residual.result c.in_err-outcome.field-0.0 (IsPlayRefusal c.args.edits c.args.self.now) c.from_residual.ensures.1
    (stuck-next c.args.self.now c.loop-edit.self c.loop-edit.yielded c.next.new.self.rest.items c.loop-edit.edit-iterator.rest.items c.args.edits c.in-Some.edit c.loop-edit.outcomes c.in_err-outcome.field-0.0 c.is_kept.ensures c.loop-edit.invariant.0 (c.loop-edit.invariant.1 ∙ all) step c.in_err-outcome.ensures.err)

pub loop-edit-preserved : goal.loop-edit-preserved
loop-edit-preserved c =
    let step : c.loop-edit.edit-iterator.rest.items ≡ c.in-Some.edit ∷ c.next.new.self.rest.items = search rules in (
      next-played c.args.self.now c.loop-edit.self c.play.new.self c.loop-edit.yielded c.in-Some.edit c.loop-edit.outcomes c.push.new.self c.in_ok-outcome.outcome c.is_kept.ensures c.loop-edit.invariant.0 c.in_ok-outcome.ensures.tables c.in_ok-outcome.ensures.outcome c.in_ok-outcome.ensures.within c.in_ok-push.ensures.ok,
      rest-next c.loop-edit.yielded c.next.new.self.rest.items c.loop-edit.edit-iterator.rest.items c.into_iter-edit-iterator.result.rest.items c.in-Some.edit c.loop-edit.invariant.1 step,
    )
