use Rattle.std.proofs.Common.{ap, ◌∙◌, ◌++◌, ◌∷◌, []}
use Rattle.pipe_run.proofs.flushing.take_off.Goals as goal

pub returns : goal.returns
returns g c =
    let p = c.pop_stage-stage.ensures in
    record { stage = c.pop_stage-stage.result; stages = p.stages; flushers = c.in_ok-push.ensures.items ∙ ap (λ l. l ++ c.pop_stage-stage.result ∷ []) p.flushers; target = p.target; seat = p.seat; entries = p.entries; refused = p.refused }
