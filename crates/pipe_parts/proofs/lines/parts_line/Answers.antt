use Rattle.std.proofs.Common.{◌≡◌, [], List, subst}
use Rattle.pipe_plan.specs.Plan.{plan_of}
use Rattle.pipe_parts.specs.Choices.{Choice, choices_of}
use Rattle.pipe_parts.specs.Parts.{parts_root}
use Rattle.pipe_parts.specs.declared.wish.Wish.TheVariants.{Split}
use Rattle.pipe_parts.specs.Least.{IsBest, IsLeast}
use Rattle.pipe_parts.specs.Obstacles.{IsFoundAt}
use Rattle.pipe_parts.proofs.Told.{told_in_parts}
use Rattle.pipe_parts.proofs.lines.parts_line.Goals as goal

pub returns-in-Some : goal.returns-in-Some
returns-in-Some c =
    let plan = plan_of c.args.plan.now.arena in
    let root = c.args.plan.now.root in
    let sizes = c.args.sizes.now in
    let choices : List Choice = choices_of plan (parts_root plan root) Split in
    let best : IsLeast plan sizes choices c.in-Some.found = subst (IsBest plan sizes choices) c.in-Some.is c.in_ok-found.ensures in
    told_in_parts c.line_in_parts.result plan root sizes c.in-Some.found best c.line_in_parts.ensures

pub unreachable-requires : goal.unreachable-requires
unreachable-requires c =
    let plan = plan_of c.args.plan.now.arena in
    let root = c.args.plan.now.root in
    let sizes = c.args.sizes.now in
    let choices : List Choice = choices_of plan (parts_root plan root) Split in
    let none : choices ≡ [] = subst (IsBest plan sizes choices) c.in-None.is c.in_ok-found.ensures in
    let some : choices ≡ [] → ⊥ = subst (IsFoundAt plan (record { node = parts_root plan root; wish = Split })) c.in-None-2.is c.in_ok-found-in-None.ensures in
    some none
