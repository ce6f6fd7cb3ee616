use Rattle.std.proofs.Common.{◌++◌, ◌∷◌, [], inl, inr, length, map, ap, ◌∙◌, arith}
use Rattle.pipe_expr.specs.Formula.{formula_of}
use Rattle.pipe_plan.specs.Node.{node_of}
use Rattle.pipe_plan.specs.Node as node
use Rattle.pipe_rules.proofs.Readings.{map-long, one-longer, none-left, some-left}
use Rattle.pipe_rules.proofs.pushdown.push_over.Goals as goal

pub push_node-requires-in-Some : goal.push_node-requires-in-Some
push_node-requires-in-Some c =
    let old_long = map-long node_of c.args.nodes.now in
    let made_long = map-long node_of c.push_node.new.nodes in
    let one = one-longer (map node_of c.args.nodes.now) (node_of c.in_ok-copy.copy) (map node_of c.push_node.new.nodes) c.in_ok-number.ensures.added in
    let had = c.requires in
    omega arith

pub returns-in-None-clause-put : goal.returns-in-None-clause-put
returns-in-None-clause-put c =
    let old = map node_of c.args.nodes.now in
    inl (record {
      none = ap (map formula_of) (none-left c.in_ok-conjunction.field-0 _ c.in-None.is c.in_ok-conjunction.ensures.none);
      made = c.in_ok-number.ensures.added ∙ ap (λ y. old ++ y ∷ []) c.in_ok-copy.ensures;
      last = c.in_ok-number.ensures.number;
    })

pub returns-in_ok-push_node-in-Some-clause-put : goal.returns-in_ok-push_node-in-Some-clause-put
returns-in_ok-push_node-in-Some-clause-put c =
    let old = map node_of c.args.nodes.now in
    let middle = map node_of c.push_node.new.nodes in
    let p = formula_of c.in-Some.predicate in
    let one = c.in_ok-number.ensures.added ∙ ap (λ y. old ++ y ∷ []) c.in_ok-copy.ensures in
    inr (record {
      predicate = p;
      joins = some-left c.in_ok-conjunction.field-0 c.in-Some.predicate _ c.in-Some.is c.in_ok-conjunction.ensures.some;
      made =
          c.in_ok-push_node-in-Some.ensures.added
          ∙ ap (λ i. middle ++ node.Filter i p ∷ []) c.in_ok-number.ensures.number
          ∙ ap (λ l. l ++ node.Filter (length old) p ∷ []) one;
      last = c.in_ok-push_node-in-Some.ensures.number ∙ ap length one;
    })
