use Rattle.std.proofs.Common.{◌≡◌, ◌≤◌, ◌*◌, map, length, ap, ◌∙◌, arith}
use Rattle.pipe_expr.specs.Formula.{formula_of}
use Rattle.pipe_plan.specs.Node.{node_of}
use Rattle.pipe_plan.specs.Plan.{plan_of}
use Rattle.pipe_plan.specs.Faults.{most_nodes}
use Rattle.pipe_rules.specs.Sizes.{size_of, count_under}
use Rattle.pipe_rules.proofs.Readings.{map-long, begun}
use Rattle.pipe_rules.proofs.Steps.{first-room, made-few, made-good, made-rows, made-whole, made-sorts, made-literals, made-within}
use Rattle.pipe_rules.proofs.pushdown.push_filters.Goals as goal

pub rewrite-requires-clause-room : goal.rewrite-requires-clause-room
rewrite-requires-clause-room c =
    let plan = plan_of c.args.plan.now.arena in
    let root = c.args.plan.now.root in
    let counted : c.in_ok-count_under.field-0 ≡ count_under plan.nodes root =
    c.in_ok-count_under.ensures ∙ ap (λ l. count_under (map node_of l) c.root-root.result) (c.as_slice.ensures ∙ ap (λ a. a.nodes) c.arena-arena.ensures.arena) ∙ ap (count_under plan.nodes) c.root-root.ensures.root in
    let few : count_under plan.nodes root ≤ 2048 = omega (arith, c.if-branch-gt-MOST_UNDER.false, counted) in
    let room : 2 * size_of plan.nodes root ≤ most_nodes = first-room plan root c.root-root.ensures.good most_nodes 2048 (omega arith) few in
    let same : size_of plan.nodes c.root-root.result ≡ size_of plan.nodes root = ap (size_of plan.nodes) c.root-root.ensures.root in
    let none : length c.new-nodes.result ≡ 0 = ap length c.new-nodes.ensures in
    omega arith

pub returns-clause-good : goal.returns-clause-good
returns-clause-good c =
    let plan = plan_of c.args.plan.now.arena in
    let root = c.args.plan.now.root in
    let counted : c.in_ok-count_under.field-0 ≡ count_under plan.nodes root =
    c.in_ok-count_under.ensures ∙ ap (λ l. count_under (map node_of l) c.root-root.result) (c.as_slice.ensures ∙ ap (λ a. a.nodes) c.arena-arena.ensures.arena) ∙ ap (count_under plan.nodes) c.root-root.ensures.root in
    let few : count_under plan.nodes root ≤ 2048 = omega (arith, c.if-branch-gt-MOST_UNDER.false, counted) in
    let made = begun plan (map node_of c.new-nodes.result) (map node_of c.rewrite.new.nodes) c.root-root.result root (map formula_of c.new.result) c.in_ok-root.root (ap (map node_of) c.new-nodes.ensures) c.root-root.ensures.root (ap (map formula_of) c.new.ensures) c.in_ok-root.ensures.rewritten in
    made-good plan root c.root-root.ensures.good (map node_of c.rewrite.new.nodes) c.in_ok-root.root made few

pub returns-clause-rows : goal.returns-clause-rows
returns-clause-rows c =
    let plan = plan_of c.args.plan.now.arena in
    let root = c.args.plan.now.root in
    let made = begun plan (map node_of c.new-nodes.result) (map node_of c.rewrite.new.nodes) c.root-root.result root (map formula_of c.new.result) c.in_ok-root.root (ap (map node_of) c.new-nodes.ensures) c.root-root.ensures.root (ap (map formula_of) c.new.ensures) c.in_ok-root.ensures.rewritten in
    made-rows plan root c.root-root.ensures.good (map node_of c.rewrite.new.nodes) c.in_ok-root.root made

pub returns-clause-few : goal.returns-clause-few
returns-clause-few c =
    let plan = plan_of c.args.plan.now.arena in
    let root = c.args.plan.now.root in
    let made = begun plan (map node_of c.new-nodes.result) (map node_of c.rewrite.new.nodes) c.root-root.result root (map formula_of c.new.result) c.in_ok-root.root (ap (map node_of) c.new-nodes.ensures) c.root-root.ensures.root (ap (map formula_of) c.new.ensures) c.in_ok-root.ensures.rewritten in
    let few = made-few plan root c.root-root.ensures.good (map node_of c.rewrite.new.nodes) c.in_ok-root.root made in
    let long = map-long node_of c.rewrite.new.nodes in
    omega arith

pub returns-clause-bounded : goal.returns-clause-bounded
returns-clause-bounded c =
    let plan = plan_of c.args.plan.now.arena in
    let root = c.args.plan.now.root in
    let made = begun plan (map node_of c.new-nodes.result) (map node_of c.rewrite.new.nodes) c.root-root.result root (map formula_of c.new.result) c.in_ok-root.root (ap (map node_of) c.new-nodes.ensures) c.root-root.ensures.root (ap (map formula_of) c.new.ensures) c.in_ok-root.ensures.rewritten in
    made-within plan root c.root-root.ensures.good (map node_of c.rewrite.new.nodes) c.in_ok-root.root made

pub returns-clause-whole : goal.returns-clause-whole
returns-clause-whole c =
    let plan = plan_of c.args.plan.now.arena in
    let root = c.args.plan.now.root in
    let made = begun plan (map node_of c.new-nodes.result) (map node_of c.rewrite.new.nodes) c.root-root.result root (map formula_of c.new.result) c.in_ok-root.root (ap (map node_of) c.new-nodes.ensures) c.root-root.ensures.root (ap (map formula_of) c.new.ensures) c.in_ok-root.ensures.rewritten in
    made-whole plan root c.root-root.ensures.good (map node_of c.rewrite.new.nodes) c.in_ok-root.root made

pub returns-clause-literals : goal.returns-clause-literals
returns-clause-literals c =
    let plan = plan_of c.args.plan.now.arena in
    let root = c.args.plan.now.root in
    let made = begun plan (map node_of c.new-nodes.result) (map node_of c.rewrite.new.nodes) c.root-root.result root (map formula_of c.new.result) c.in_ok-root.root (ap (map node_of) c.new-nodes.ensures) c.root-root.ensures.root (ap (map formula_of) c.new.ensures) c.in_ok-root.ensures.rewritten in
    made-literals plan root c.root-root.ensures.good (map node_of c.rewrite.new.nodes) c.in_ok-root.root made

pub returns-clause-sorts : goal.returns-clause-sorts
returns-clause-sorts c =
    let plan = plan_of c.args.plan.now.arena in
    let root = c.args.plan.now.root in
    let made = begun plan (map node_of c.new-nodes.result) (map node_of c.rewrite.new.nodes) c.root-root.result root (map formula_of c.new.result) c.in_ok-root.root (ap (map node_of) c.new-nodes.ensures) c.root-root.ensures.root (ap (map formula_of) c.new.ensures) c.in_ok-root.ensures.rewritten in
    made-sorts plan root c.root-root.ensures.good (map node_of c.rewrite.new.nodes) c.in_ok-root.root made

pub returns-clause-last : goal.returns-clause-last
returns-clause-last c =
    let plan = plan_of c.args.plan.now.arena in
    let root = c.args.plan.now.root in
    let made = begun plan (map node_of c.new-nodes.result) (map node_of c.rewrite.new.nodes) c.root-root.result root (map formula_of c.new.result) c.in_ok-root.root (ap (map node_of) c.new-nodes.ensures) c.root-root.ensures.root (ap (map formula_of) c.new.ensures) c.in_ok-root.ensures.rewritten in
    let long = map-long node_of c.rewrite.new.nodes in
    let last = made.last in
    omega arith
