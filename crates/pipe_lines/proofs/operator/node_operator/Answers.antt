use Rattle.std.proofs.Common.{refl, ap, sym, ◌∙◌}
use Rattle.pipe_expr.specs.Formula.{formula_of, named_formulas_of, formulas_of}
use Rattle.pipe_plan.specs.Node.{node_of}
use Rattle.pipe_plan.specs.Node as node
use Rattle.pipe_slots.specs.declared.phys_operator.PhysOperator.TheVariants as op
use Rattle.pipe_convert.proofs.JoinNodes.{joins}
use Rattle.pipe_convert.specs.Converted.{IsNode}
use Rattle.pipe_lines.proofs.RowOperators.{pass_at, row_at, place_stands}
use Rattle.pipe_lines.proofs.operator.node_operator.Goals as goal

pub filter_operator-requires : goal.filter_operator-requires
filter_operator-requires g c = record { under = c.requires.under; is = sym c.requires.is ∙ ap node_of c.in-Filter.is }

pub simple_projection_operator-requires : goal.simple_projection_operator-requires
simple_projection_operator-requires g c = record { under = c.requires.under; is = sym c.requires.is ∙ ap node_of c.in-SimpleProjection.is }

pub projection_operator-requires : goal.projection_operator-requires
projection_operator-requires g c = rw c.as_slice.ensures (record { under = c.requires.under; is = sym c.requires.is ∙ ap node_of c.in-Select.is })

pub hstack_operator-requires : goal.hstack_operator-requires
hstack_operator-requires g c = rw c.as_slice-in-HStack.ensures (record { under = c.requires.under; is = sym c.requires.is ∙ ap node_of c.in-HStack.is })

pub function_operator-requires-clause-node : goal.function_operator-requires-clause-node
function_operator-requires-clause-node g c = record { under = c.requires.under; is = sym c.requires.is ∙ ap node_of c.in-MapFunction.is }

pub returns-in_ok-operator-in-Filter : goal.returns-in_ok-operator-in-Filter
returns-in_ok-operator-in-Filter g c =
    let x = c.in-Filter in
    row_at c.args.plan.now c.args.specs.now c.args.n (node.Filter x.input (formula_of x.predicate)) (op.Filter c.in_ok-operator-in-Filter.operator) x.input _ _ _ (sym c.requires.is ∙ ap node_of x.is) refl refl c.in_ok-operator-in-Filter.ensures (λ schema s. refl) (λ y given row. row)

pub returns-in_ok-operator-in-SimpleProjection : goal.returns-in_ok-operator-in-SimpleProjection
returns-in_ok-operator-in-SimpleProjection g c =
    let x = c.in-SimpleProjection in
    row_at c.args.plan.now c.args.specs.now c.args.n (node.SimpleProjection x.input x.columns) (op.SimpleProjection c.in_ok-operator-in-SimpleProjection.operator) x.input _ _ _ (sym c.requires.is ∙ ap node_of x.is) refl refl c.in_ok-operator-in-SimpleProjection.ensures (λ schema s. refl) (λ y given row. row)

pub returns-in_ok-operator-in-Select : goal.returns-in_ok-operator-in-Select
returns-in_ok-operator-in-Select g c =
    let x = c.in-Select in
    row_at c.args.plan.now c.args.specs.now c.args.n (node.Select x.input (named_formulas_of x.exprs)) (op.Projection c.in_ok-operator-in-Select.operator) x.input _ _ _ (sym c.requires.is ∙ ap node_of x.is) refl refl c.in_ok-operator-in-Select.ensures (λ schema s. refl) (λ y given row. row)

pub returns-in_ok-operator-in-HStack : goal.returns-in_ok-operator-in-HStack
returns-in_ok-operator-in-HStack g c =
    let x = c.in-HStack in
    row_at c.args.plan.now c.args.specs.now c.args.n (node.HStack x.input (named_formulas_of x.exprs)) (op.Hstack c.in_ok-operator-in-HStack.operator) x.input _ _ _ (sym c.requires.is ∙ ap node_of x.is) refl refl c.in_ok-operator-in-HStack.ensures (λ schema s. refl) (λ y given row. row)

pub returns-in_ok-operator-in-MapFunction : goal.returns-in_ok-operator-in-MapFunction
returns-in_ok-operator-in-MapFunction g c =
    let x = c.in-MapFunction in
    row_at c.args.plan.now c.args.specs.now c.args.n (node.MapFunction x.input x.function) (op.Function c.in_ok-operator-in-MapFunction.operator) x.input _ _ _ (sym c.requires.is ∙ ap node_of x.is) refl refl c.in_ok-operator-in-MapFunction.ensures (λ schema s. refl) (λ y given row. row)

pub returns-in-Union : goal.returns-in-Union
returns-in-Union g c =
    pass_at c.args.plan.now c.args.specs.now c.args.n c.in-Union.inputs (op.Pass c.new.result) c.known_well_formed.ensures (record { under = c.requires.under; is = sym c.requires.is ∙ ap node_of c.in-Union.is })
    (λ s. tt) (λ s. refl) (λ schema s. refl) c.new.ensures (λ y given row. row)

pub place_at-requires-clause-join : goal.place_at-requires-clause-join
place_at-requires-clause-join g c =
    let x = c.in-Join in
    joins c.args.plan.now c.args.n x.left x.right (formulas_of x.left_on) (formulas_of x.right_on) x.options (record { under = c.requires.under; is = sym c.requires.is ∙ ap node_of x.is })

pub returns-in_ok-place-in-Join : goal.returns-in_ok-place-in-Join
returns-in_ok-place-in-Join g c =
    let x = c.in-Join in
    let at_n : IsNode c.args.plan.now c.args.n (node.Join x.left x.right (formulas_of x.left_on) (formulas_of x.right_on) x.options) = record { under = c.requires.under; is = sym c.requires.is ∙ ap node_of x.is } in
    place_stands c.args.plan.now c.args.specs.now c.args.n c.in_ok-place-in-Join.place c.known_well_formed.ensures (joins c.args.plan.now c.args.n x.left x.right (formulas_of x.left_on) (formulas_of x.right_on) x.options at_n) c.in_ok-place-in-Join.ensures
