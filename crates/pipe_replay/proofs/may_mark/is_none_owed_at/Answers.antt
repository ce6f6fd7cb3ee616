use Rattle.std.proofs.Common.{◌≡◌, ◌∙◌, true, IfOk, ap, subst}
use Rattle.std.specs.Prelude.{not}
use Rattle.std.specs.List.{list_any}
use Rattle.pipe_events.specs.Stages.{marks}
use Rattle.pipe_events.specs.Worlds.{at_join}
use Rattle.pipe_events.specs.Decided.{implies}
use Rattle.pipe_world.specs.StageValues.{join_value}
use Rattle.pipe_world.specs.Staged.{staged}
use Rattle.pipe_world.specs.Shown.{world_of}
use Rattle.pipe_replay.specs.Carried.{gathered}
use Rattle.pipe_replay.specs.Joins.{owes_none}
use Rattle.pipe_replay.specs.MetRows.{owes_flag}
use Rattle.pipe_replay.proofs.CarriedLemmas.{gathered-is}
use Rattle.pipe_replay.proofs.may_mark.is_none_owed_at.Goals as goal

pub returns-in-Joined : goal.returns-in-Joined
returns-in-Joined c =
    let plan = staged c.args.plan.now in
    let w = world_of c.args.world.now in
    let j = join_value c.in-Joined.join in
    let come = ap (λ tables. gathered tables j.probe) c.requires ∙ gathered-is plan w c.args.worker j.probe in
    let is = ap (λ rows. implies (marks j) (not (list_any (owes_flag (w.flag c.args.k) j rows) (w.bag j.build)))) come ∙ ap (at_join true (owes_none plan w c.args.worker c.args.k)) c.in-Joined.ensures in
    subst (λ expected. IfOk c.is_none_owed.result (λ none. none ≡ expected)) is c.is_none_owed.ensures
