use Rattle.std.proofs.Common.{map, refl, ap, ◌∙◌, arith}
use Rattle.pipe_plan.specs.Node.{node_of}
use Rattle.pipe_plan.specs.Plan.{plan_of}
use Rattle.pipe_rules.proofs.Readings.{map-long}
use Rattle.pipe_optimize.proofs.Optimized.{pushed-of, optimized, tree-of}
use Rattle.pipe_optimize.proofs.passes.optimize.Goals as goal

pub trim-requires-clause-tree : goal.trim-requires-clause-tree
trim-requires-clause-tree c =
    let plan = plan_of c.args.plan.now.arena in
    let given = c.args.plan.now.root in
    let irs = c.in_ok-pushed.pushed.nodes in
    let root = c.in_ok-pushed.pushed.root in
    let e = c.in_ok-pushed.ensures in
    let pushed = pushed-of plan given irs root e.good e.schema e.rows e.low e.bounded e.whole e.last e.sorts e.literals in
    tree-of plan.frames (map node_of irs) root pushed.good pushed.whole pushed.last

pub trim-requires-clause-there : goal.trim-requires-clause-there
trim-requires-clause-there c =
    let last = c.in_ok-pushed.ensures.last in
    omega arith

pub trim-requires-clause-few : goal.trim-requires-clause-few
trim-requires-clause-few c =
    let plan = plan_of c.args.plan.now.arena in
    let given = c.args.plan.now.root in
    let irs = c.in_ok-pushed.pushed.nodes in
    let root = c.in_ok-pushed.pushed.root in
    let e = c.in_ok-pushed.ensures in
    let pushed = pushed-of plan given irs root e.good e.schema e.rows e.low e.bounded e.whole e.last e.sorts e.literals in
    let few = pushed.good.few in
    let long = map-long node_of irs in
    omega arith

pub returns-clause-few : goal.returns-clause-few
returns-clause-few c =
    let plan = plan_of c.args.plan.now.arena in
    let given = c.args.plan.now.root in
    let irs = c.in_ok-pushed.pushed.nodes in
    let root = c.in_ok-pushed.pushed.root in
    let e = c.in_ok-pushed.ensures in
    let pushed = pushed-of plan given irs root e.good e.schema e.rows e.low e.bounded e.whole e.last e.sorts e.literals in
    let frames = c.as_slice-frames.ensures ∙ ap (λ a. a.frames) c.arena.ensures.arena in
    let all = optimized plan given c.as_slice-frames.result.now irs irs c.in_ok-nodes.nodes root pushed frames refl c.frames_fit.ensures c.frames_full.ensures c.in_ok-nodes.ensures in
    let few = e.few in
    let long = map-long node_of c.in_ok-nodes.nodes in
    let last = e.last in
    let most = all.long in
    omega arith

pub returns-clause-good : goal.returns-clause-good
returns-clause-good c =
    let plan = plan_of c.args.plan.now.arena in
    let given = c.args.plan.now.root in
    let irs = c.in_ok-pushed.pushed.nodes in
    let root = c.in_ok-pushed.pushed.root in
    let e = c.in_ok-pushed.ensures in
    let pushed = pushed-of plan given irs root e.good e.schema e.rows e.low e.bounded e.whole e.last e.sorts e.literals in
    let frames = c.as_slice-frames.ensures ∙ ap (λ a. a.frames) c.arena.ensures.arena in
    let all = optimized plan given c.as_slice-frames.result.now irs irs c.in_ok-nodes.nodes root pushed frames refl c.frames_fit.ensures c.frames_full.ensures c.in_ok-nodes.ensures in
    all.good

pub returns-clause-schema : goal.returns-clause-schema
returns-clause-schema c =
    let plan = plan_of c.args.plan.now.arena in
    let given = c.args.plan.now.root in
    let irs = c.in_ok-pushed.pushed.nodes in
    let root = c.in_ok-pushed.pushed.root in
    let e = c.in_ok-pushed.ensures in
    let pushed = pushed-of plan given irs root e.good e.schema e.rows e.low e.bounded e.whole e.last e.sorts e.literals in
    let frames = c.as_slice-frames.ensures ∙ ap (λ a. a.frames) c.arena.ensures.arena in
    let all = optimized plan given c.as_slice-frames.result.now irs irs c.in_ok-nodes.nodes root pushed frames refl c.frames_fit.ensures c.frames_full.ensures c.in_ok-nodes.ensures in
    all.schema

pub returns-clause-rows : goal.returns-clause-rows
returns-clause-rows c =
    let plan = plan_of c.args.plan.now.arena in
    let given = c.args.plan.now.root in
    let irs = c.in_ok-pushed.pushed.nodes in
    let root = c.in_ok-pushed.pushed.root in
    let e = c.in_ok-pushed.ensures in
    let pushed = pushed-of plan given irs root e.good e.schema e.rows e.low e.bounded e.whole e.last e.sorts e.literals in
    let frames = c.as_slice-frames.ensures ∙ ap (λ a. a.frames) c.arena.ensures.arena in
    let all = optimized plan given c.as_slice-frames.result.now irs irs c.in_ok-nodes.nodes root pushed frames refl c.frames_fit.ensures c.frames_full.ensures c.in_ok-nodes.ensures in
    all.rows

pub returns-clause-sorted : goal.returns-clause-sorted
returns-clause-sorted c =
    let plan = plan_of c.args.plan.now.arena in
    let given = c.args.plan.now.root in
    let irs = c.in_ok-pushed.pushed.nodes in
    let root = c.in_ok-pushed.pushed.root in
    let e = c.in_ok-pushed.ensures in
    let pushed = pushed-of plan given irs root e.good e.schema e.rows e.low e.bounded e.whole e.last e.sorts e.literals in
    let frames = c.as_slice-frames.ensures ∙ ap (λ a. a.frames) c.arena.ensures.arena in
    let all = optimized plan given c.as_slice-frames.result.now irs irs c.in_ok-nodes.nodes root pushed frames refl c.frames_fit.ensures c.frames_full.ensures c.in_ok-nodes.ensures in
    all.sorted

pub returns-clause-sorts : goal.returns-clause-sorts
returns-clause-sorts c =
    let plan = plan_of c.args.plan.now.arena in
    let given = c.args.plan.now.root in
    let irs = c.in_ok-pushed.pushed.nodes in
    let root = c.in_ok-pushed.pushed.root in
    let e = c.in_ok-pushed.ensures in
    let pushed = pushed-of plan given irs root e.good e.schema e.rows e.low e.bounded e.whole e.last e.sorts e.literals in
    let frames = c.as_slice-frames.ensures ∙ ap (λ a. a.frames) c.arena.ensures.arena in
    let all = optimized plan given c.as_slice-frames.result.now irs irs c.in_ok-nodes.nodes root pushed frames refl c.frames_fit.ensures c.frames_full.ensures c.in_ok-nodes.ensures in
    all.sorts

pub returns-clause-literals : goal.returns-clause-literals
returns-clause-literals c =
    let plan = plan_of c.args.plan.now.arena in
    let given = c.args.plan.now.root in
    let irs = c.in_ok-pushed.pushed.nodes in
    let root = c.in_ok-pushed.pushed.root in
    let e = c.in_ok-pushed.ensures in
    let pushed = pushed-of plan given irs root e.good e.schema e.rows e.low e.bounded e.whole e.last e.sorts e.literals in
    let frames = c.as_slice-frames.ensures ∙ ap (λ a. a.frames) c.arena.ensures.arena in
    let all = optimized plan given c.as_slice-frames.result.now irs irs c.in_ok-nodes.nodes root pushed frames refl c.frames_fit.ensures c.frames_full.ensures c.in_ok-nodes.ensures in
    all.literals

pub returns-clause-low : goal.returns-clause-low
returns-clause-low c =
    let plan = plan_of c.args.plan.now.arena in
    let given = c.args.plan.now.root in
    let irs = c.in_ok-pushed.pushed.nodes in
    let root = c.in_ok-pushed.pushed.root in
    let e = c.in_ok-pushed.ensures in
    let pushed = pushed-of plan given irs root e.good e.schema e.rows e.low e.bounded e.whole e.last e.sorts e.literals in
    let frames = c.as_slice-frames.ensures ∙ ap (λ a. a.frames) c.arena.ensures.arena in
    let all = optimized plan given c.as_slice-frames.result.now irs irs c.in_ok-nodes.nodes root pushed frames refl c.frames_fit.ensures c.frames_full.ensures c.in_ok-nodes.ensures in
    all.low

pub returns-clause-trimmed : goal.returns-clause-trimmed
returns-clause-trimmed c =
    let plan = plan_of c.args.plan.now.arena in
    let given = c.args.plan.now.root in
    let irs = c.in_ok-pushed.pushed.nodes in
    let root = c.in_ok-pushed.pushed.root in
    let e = c.in_ok-pushed.ensures in
    let pushed = pushed-of plan given irs root e.good e.schema e.rows e.low e.bounded e.whole e.last e.sorts e.literals in
    let frames = c.as_slice-frames.ensures ∙ ap (λ a. a.frames) c.arena.ensures.arena in
    let all = optimized plan given c.as_slice-frames.result.now irs irs c.in_ok-nodes.nodes root pushed frames refl c.frames_fit.ensures c.frames_full.ensures c.in_ok-nodes.ensures in
    all.trimmed

pub returns-clause-bounded : goal.returns-clause-bounded
returns-clause-bounded c =
    let plan = plan_of c.args.plan.now.arena in
    let given = c.args.plan.now.root in
    let irs = c.in_ok-pushed.pushed.nodes in
    let root = c.in_ok-pushed.pushed.root in
    let e = c.in_ok-pushed.ensures in
    let pushed = pushed-of plan given irs root e.good e.schema e.rows e.low e.bounded e.whole e.last e.sorts e.literals in
    let frames = c.as_slice-frames.ensures ∙ ap (λ a. a.frames) c.arena.ensures.arena in
    let all = optimized plan given c.as_slice-frames.result.now irs irs c.in_ok-nodes.nodes root pushed frames refl c.frames_fit.ensures c.frames_full.ensures c.in_ok-nodes.ensures in
    all.bounded

pub returns-clause-whole : goal.returns-clause-whole
returns-clause-whole c =
    let plan = plan_of c.args.plan.now.arena in
    let given = c.args.plan.now.root in
    let irs = c.in_ok-pushed.pushed.nodes in
    let root = c.in_ok-pushed.pushed.root in
    let e = c.in_ok-pushed.ensures in
    let pushed = pushed-of plan given irs root e.good e.schema e.rows e.low e.bounded e.whole e.last e.sorts e.literals in
    let frames = c.as_slice-frames.ensures ∙ ap (λ a. a.frames) c.arena.ensures.arena in
    let all = optimized plan given c.as_slice-frames.result.now irs irs c.in_ok-nodes.nodes root pushed frames refl c.frames_fit.ensures c.frames_full.ensures c.in_ok-nodes.ensures in
    all.whole
