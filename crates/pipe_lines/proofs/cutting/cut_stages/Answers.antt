use Rattle.std.proofs.Common.{◌≡◌, ◌+◌, List, [], ◌∷◌, ℕ, drop, get_or, subst, arith}
use Rattle.std.proofs.lemmas.List.{drop_more, drop_all, nil_from_length}
use Rattle.pipe_slots.specs.declared.phys_operator.PhysOperator.{PhysOperator}
use Rattle.pipe_lines.proofs.CutSteps.{IsCutting, cutting_first, cutting_some, cutting_next, cutting_made, cutting_left}
use Rattle.pipe_lines.proofs.cutting.cut_stages.Goals as goal

pub loop-n-init : goal.loop-n-init
loop-n-init g c = cutting_first c.args.nodes.now c.args.start c.args.operators.now.items _ c.new-stages.ensures.items c.requires

pub unreachable-requires : goal.unreachable-requires
unreachable-requires g c =
    let ns = c.args.nodes.now in
    let i = c.loop-n.n-index in
    let R : List ℕ → Type 0 = λ rest. IsCutting ns rest c.args.start c.loop-n.given c.args.operators.now.items c.loop-n.operators.items c.loop-n.stages.items in
    let is = subst R (drop_more ns i 0 c.loop-n-test.true) c.loop-n.invariant in
    cutting_some ns (get_or ns i 0) (drop (i + 1) ns) c.args.start c.loop-n.given c.args.operators.now.items c.loop-n.operators.items c.loop-n.stages.items is
    (nil_from_length c.loop-n.operators.items (omega (arith, c.in_default.ensures.cases.0)))

pub loop-n-preserved : goal.loop-n-preserved
loop-n-preserved g c =
    let ns = c.args.nodes.now in
    let i = c.loop-n.n-index in
    let all = c.args.operators.now.items in
    let R : List ℕ → Type 0 = λ rest. IsCutting ns rest c.args.start c.loop-n.given all c.loop-n.operators.items c.loop-n.stages.items in
    let O : List (PhysOperator g.row.H.Denot) → Type 0 = λ os. IsCutting ns (get_or ns i 0 ∷ drop (i + 1) ns) c.args.start c.loop-n.given all os c.loop-n.stages.items in
    let is = subst O c.in-Some.ensures.items (subst R (drop_more ns i 0 c.loop-n-test.true) c.loop-n.invariant) in
    rw c.in_ok-push.ensures.items (cutting_next ns (get_or ns i 0) (drop (i + 1) ns) c.args.start c.loop-n.given all c.in-Some.operator c.pop_front.new.self.items c.loop-n.stages.items is)

pub returns-clause-stages : goal.returns-clause-stages
returns-clause-stages g c =
    let ns = c.args.nodes.now in
    let i = c.loop-n.n-index in
    let none : drop i ns ≡ [] = drop_all i ns (omega (arith, c.loop-n-test.false)) in
    cutting_made ns (drop i ns) c.args.start c.loop-n.given c.args.operators.now.items c.loop-n.operators.items c.loop-n.stages.items none c.loop-n.invariant

pub returns-clause-left : goal.returns-clause-left
returns-clause-left g c =
    let ns = c.args.nodes.now in
    let i = c.loop-n.n-index in
    let none : drop i ns ≡ [] = drop_all i ns (omega (arith, c.loop-n-test.false)) in
    cutting_left ns (drop i ns) c.args.start c.loop-n.given c.args.operators.now.items c.loop-n.operators.items c.loop-n.stages.items none c.loop-n.invariant
