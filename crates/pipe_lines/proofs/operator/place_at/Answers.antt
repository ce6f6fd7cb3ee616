use Rattle.std.proofs.Common.{subst}
use Rattle.pipe_table.specs.declared.spec.JoinSpec.{JoinSpec}
use Rattle.pipe_convert.specs.Joins.{IsSpecOf}
use Rattle.pipe_convert.proofs.JoinNodes.{spec_there}
use Rattle.pipe_lines.proofs.SpecAt.{spec_some, spec_is}
use Rattle.pipe_lines.proofs.operator.place_at.Goals as goal

pub settings_of-requires : goal.settings_of-requires
settings_of-requires c = spec_there c.args.plan.now c.args.specs.now c.args.n c.known_well_formed.ensures c.requires.specs c.requires.join

pub unreachable-requires : goal.unreachable-requires
unreachable-requires c = spec_some c.args.plan.now c.args.specs.now c.args.n c.settings_of.result.now c.requires.specs c.requires.join c.settings_of.ensures c.in-None.is

pub get_dummy_operator-requires : goal.get_dummy_operator-requires
get_dummy_operator-requires c =
    let is = spec_is c.args.plan.now c.args.specs.now c.args.n c.settings_of.result.now c.in-Some.spec c.requires.specs c.requires.join c.settings_of.ensures c.in-Some.is in
    rw c.in_ok-clone-in-Some.ensures.cases is.0.good

pub returns : goal.returns
returns c =
    let is = spec_is c.args.plan.now c.args.specs.now c.args.n c.settings_of.result.now c.in-Some.spec c.requires.specs c.requires.join c.settings_of.ensures c.in-Some.is in
    let P : JoinSpec → Type 0 = IsSpecOf c.args.plan.now c.args.n in
    record { node = c.get_dummy_operator.ensures.node; spec = rw (c.get_dummy_operator.ensures.spec, c.in_ok-clone-in-Some.ensures.cases) is.1; good = subst P is.1 is.0 }
