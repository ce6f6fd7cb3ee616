use Rattle.std.proofs.Common.{ap, ◌∙◌}
use Rattle.pipe_plan.specs.Plan.{plan_of}
use Rattle.pipe_driver.specs.Numbers.{sink_number}
use Rattle.pipe_convert.specs.Counts.{bound, numbered, gone_through}
use Rattle.pipe_convert.proofs.Sums.{bound_is, feeds_are, passes_are}
use Rattle.pipe_convert.proofs.counting.branch_counts.Goals as goal

pub returns-clause-many : goal.returns-clause-many
returns-clause-many c =
    c.in_ok-counts.ensures.length ∙ ap (bound 0) c.requires.cut ∙ bound_is (plan_of c.args.plan.now.arena) c.args.plan.now.root

pub returns-clause-sinks : goal.returns-clause-sinks
returns-clause-sinks c = λ s.
    let plan = plan_of c.args.plan.now.arena in
    let root = c.args.plan.now.root in
    c.in_ok-counts.ensures.sinks (sink_number plan root s) ∙ ap (numbered (sink_number plan root s)) c.requires.cut ∙ feeds_are plan root s c.known_well_formed.ensures

pub returns-clause-probers : goal.returns-clause-probers
returns-clause-probers c = λ n.
    let plan = plan_of c.args.plan.now.arena in
    let root = c.args.plan.now.root in
    c.in_ok-counts.ensures.probers n ∙ ap (gone_through n) c.requires.cut ∙ passes_are plan root n
