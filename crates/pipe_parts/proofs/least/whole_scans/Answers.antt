use Rattle.std.proofs.Common.{◌≡◌, [], Some, subst}
use Rattle.pipe_plan.specs.Plan.{plan_of}
use Rattle.pipe_parts.specs.Choices.{choices_of}
use Rattle.pipe_parts.specs.declared.wish.Wish.TheVariants.{Whole}
use Rattle.pipe_parts.specs.Least.{IsBest}
use Rattle.pipe_parts.proofs.Wholes.{only-whole, some-whole}
use Rattle.pipe_parts.proofs.least.whole_scans.Goals as goal

pub returns : goal.returns
returns c =
    let plan = plan_of c.args.plan.now.arena in
    let root = c.args.plan.now.root in
    let best : IsBest plan [] (choices_of plan c.root-root.result Whole) (Some c.in-Some.found) = subst (IsBest plan [] (choices_of plan c.root-root.result Whole)) c.in-Some.is c.in_ok-found.ensures.best in
    let own_ : IsBest plan [] (choices_of plan root Whole) (Some c.in-Some.found) = subst (λ k. IsBest plan [] (choices_of plan k Whole) (Some c.in-Some.found)) c.root-root.ensures.root best in
    only-whole plan root c.root-root.ensures.good root c.root-root.ensures.under c.in-Some.found.cuts own_.allowed

pub unreachable-requires : goal.unreachable-requires
unreachable-requires c =
    let plan = plan_of c.args.plan.now.arena in
    let root = c.args.plan.now.root in
    let none : choices_of plan c.root-root.result Whole ≡ [] = subst (IsBest plan [] (choices_of plan c.root-root.result Whole)) c.in-None.is c.in_ok-found.ensures.best in
    some-whole plan root c.root-root.ensures.good root c.root-root.ensures.under (subst (λ k. choices_of plan k Whole ≡ []) c.root-root.ensures.root none)
