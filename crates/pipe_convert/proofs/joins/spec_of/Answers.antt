use Rattle.std.proofs.Common.{ap, sym, ◌∙◌}
use Rattle.pipe_expr.specs.Formula.{formulas_of}
use Rattle.pipe_plan.specs.Node.{node_of}
use Rattle.pipe_plan.specs.Node as node
use Rattle.pipe_convert.specs.Converted.{IsNode}
use Rattle.pipe_convert.proofs.SpecFacts.{spec_is}
use Rattle.pipe_convert.proofs.joins.spec_of.Goals as goal

pub returns-in_ok-new-in-Join : goal.returns-in_ok-new-in-Join
returns-in_ok-new-in-Join c = λ join.
    let x = c.in-Join in
    let made = c.in_ok-spec-in-Join in
    let at_n : IsNode c.args.plan.now c.args.n (node.Join x.left x.right (formulas_of x.left_on) (formulas_of x.right_on) x.options) = record { under = c.requires; is = sym c.numbered.ensures ∙ ap node_of x.is } in
    rw c.in_ok-new-in-Join.ensures.ok
    (spec_is c.args.plan.now c.args.n x.left x.right (formulas_of x.left_on) (formulas_of x.right_on) x.options c.known_well_formed.ensures at_n made.spec made.ensures.good (rw (c.as_slice-left_on.ensures, c.as_slice-right_on.ensures) at made.ensures.settings) made.ensures.side)
