use Rattle.std.proofs.Common.{◌≡◌, ◌∙◌, IfOk, ap, subst}
use Rattle.pipe_world.specs.Staged.{staged}
use Rattle.pipe_world.specs.Shown.{world_of}
use Rattle.pipe_replay.specs.Carried.{gathered}
use Rattle.pipe_replay.proofs.CarriedLemmas.{gathered-is}
use Rattle.pipe_replay.proofs.carried.carried_rows.Goals as goal

pub returns : goal.returns
returns c =
    let is = ap (λ tables. gathered tables c.args.t) (c.as_slice.ensures ∙ c.in_ok-tables.ensures) ∙ gathered-is (staged c.args.plan.now) (world_of c.args.world.now) c.args.worker c.args.t in
    subst (λ expected. IfOk c.gathered_rows.result (λ rows. rows ≡ expected)) is c.gathered_rows.ensures
