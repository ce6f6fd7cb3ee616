use Rattle.std.proofs.Common.{◌≡◌, ◌+◌, List, [], ℕ, drop, get_or, subst, arith}
use Rattle.std.proofs.lemmas.List.{drop_more, drop_all}
use Rattle.std.specs.List.{AllByRecursion}
use Rattle.pipe_lines.specs.Parts.{IsGoneThrough}
use Rattle.pipe_lines.proofs.PartFacts.{OperatorsBehind, operators_first, operators_next, operators_done}
use Rattle.pipe_lines.proofs.branch_operators.create_operators.Goals as goal

pub loop-n-init : goal.loop-n-init
loop-n-init g c = record { through = c.requires.through; behind = operators_first c.args.plan.now c.args.specs.now c.args.nodes.now _ c.new-made.ensures.items }

pub get_operator-requires-clause-specs : goal.get_operator-requires-clause-specs
get_operator-requires-clause-specs g c = λ κs lives. c.requires.specs

pub get_operator-requires-clause-workers : goal.get_operator-requires-clause-workers
get_operator-requires-clause-workers g c = λ κs lives. c.requires.workers

pub get_operator-requires-clause-through : goal.get_operator-requires-clause-through
get_operator-requires-clause-through g c = λ κs lives. (
    let i = c.loop-n.n-index in
    let A : List ℕ → Type 0 = AllByRecursion (IsGoneThrough c.args.plan.now) in
    (subst A (drop_more c.args.nodes.now i 0 c.loop-n-test.true) c.loop-n.invariant.through).0)

pub loop-n-preserved : goal.loop-n-preserved
loop-n-preserved g c =
    let plan = c.args.plan.now in
    let specs = c.args.specs.now in
    let ns = c.args.nodes.now in
    let i = c.loop-n.n-index in
    let more = drop_more ns i 0 c.loop-n-test.true in
    let known = c.loop-n.invariant in
    let A : List ℕ → Type 0 = AllByRecursion (IsGoneThrough plan) in
    let B : List ℕ → Type 0 = λ rest. OperatorsBehind plan specs ns rest c.loop-n.made.items in
    rw c.in_ok-push.ensures.items (record {
      through = (subst A more known.through).1;
      behind = operators_next plan specs ns (get_or ns i 0) (drop (i + 1) ns) c.loop-n.made.items _ c.in_ok-get_operator.ensures (subst B more known.behind);
    })

pub returns : goal.returns
returns g c =
    let ns = c.args.nodes.now in
    let i = c.loop-n.n-index in
    let none : drop i ns ≡ [] = drop_all i ns (omega (arith, c.loop-n-test.false)) in
    operators_done c.args.plan.now c.args.specs.now ns (drop i ns) c.loop-n.made.items none c.loop-n.invariant.behind
