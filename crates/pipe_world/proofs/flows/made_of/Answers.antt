use Rattle.std.proofs.Common.{◌≡◌, ◌∙◌, [], ap}
use Rattle.std.specs.List.{flat_map}
use Rattle.pipe_events.specs.Stages.{feeds, through}
use Rattle.pipe_plain.specs.Tables.{at_place}
use Rattle.pipe_world.specs.StageValues.{stage_value}
use Rattle.pipe_world.proofs.RowByRow.{as_they_are}
use Rattle.pipe_world.proofs.flows.made_of.Goals as goal

pub returns-in-Union : goal.returns-in-Union
returns-in-Union c =
    let at = at_place [] c.args.flows.now in
    let built = at_place [] c.args.bags.now in
    let e = ap (λ s. flat_map (through built (stage_value s)) (flat_map at (feeds (stage_value s)))) c.in-Union.is ∙ as_they_are (flat_map at c.in-Union.inputs.now) in
    rw e c.united.ensures
