use Rattle.std.proofs.Common.{◌≡◌, ◌⊎◌}
use Rattle.pipe_plan.specs.declared.error.PipeError.TheVariants.{Memory}
use Rattle.pipe_view.specs.ReplayEnds.{IsRefusedReplay}
use Rattle.pipe_view.specs.ReplaySpelling.{replay_task}
use Rattle.pipe_view.proofs.Replayed.{edit_refused, passed_on, view_refused}
use Rattle.pipe_view.proofs.played_text.replay_lines.Goals as goal

pub returns-in_err-view-clause-err : goal.returns-in_err-view-clause-err
returns-in_err-view-clause-err c =
    let e = c.in_err-view.field-0.0 in
    passed_on c.from_residual.result e (λ f. f ≡ Memory ⊎ IsRefusedReplay (replay_task c.args.replay) f) c.from_residual.ensures.1 (view_refused c.args.replay e c.in_err-view.ensures.err)

pub returns-in_err-outcomes-clause-err : goal.returns-in_err-outcomes-clause-err
returns-in_err-outcomes-clause-err c =
    let e = c.in_err-outcomes.field-0.0 in
    passed_on c.from_residual-in_err-outcomes.result e (λ f. f ≡ Memory ⊎ IsRefusedReplay (replay_task c.args.replay) f) c.from_residual-in_err-outcomes.ensures.1
    (edit_refused c.args.replay c.in_ok-view.view e c.in_ok-view.ensures.ok c.in_ok-view.ensures.good c.in_err-outcomes.ensures.err)
