use Rattle.std.proofs.Common.{◌∙◌, false, ap}
use Rattle.pipe_events.specs.Stages.{reach_at}
use Rattle.pipe_plain.specs.Tables.{at_place}
use Rattle.pipe_plain.proofs.Walks.{table-walks}
use Rattle.pipe_world.specs.Staged.{staged}
use Rattle.pipe_replay.proofs.closing.is_reaching.Goals as goal

pub returns : goal.returns
returns c =
    let plan = staged c.args.plan.now in
    c.is_marked.ensures ∙ ap (λ l. at_place false l c.args.t) (c.as_slice.ensures ∙ c.in_ok-marks.ensures) ∙ ap (λ f. f c.args.t) (table-walks false (reach_at plan c.args.n) plan.size)
