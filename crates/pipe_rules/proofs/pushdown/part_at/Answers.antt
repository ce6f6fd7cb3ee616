use Rattle.std.proofs.Common.{map, ap, ◌∙◌, sym, subst}
use Rattle.pipe_plan.specs.Node.{node_of}
use Rattle.pipe_plan.specs.Plan.{plan_of}
use Rattle.pipe_plan.specs.Under.{is_under}
use Rattle.pipe_plan.specs.Schemas.{schema_of}
use Rattle.pipe_rules.specs.Reach.{formulas_in, AreOver, BeginsWith, is_passed_left}
use Rattle.pipe_rules.specs.Renumbered.{first_or}
use Rattle.pipe_rules.proofs.Reaches.{begins, join-first}
use Rattle.pipe_rules.proofs.Seen.{first-under, second-under, all-seen}
use Rattle.pipe_rules.proofs.Readings.{named-as}
use Rattle.pipe_rules.proofs.pushdown.part_at.Goals as goal

pub schema-left-requires : goal.schema-left-requires
schema-left-requires c =
    let plan = plan_of c.args.plan.now.arena in
    named-as (is_under plan.nodes c.args.plan.now.root) c.first_or.ensures (first-under plan c.args.plan.now.root c.args.n c.requires.good c.requires.under c.args.inputs.now (node_of c.args.node.now) c.requires.at c.requires.inputs)

pub schema-right-requires : goal.schema-right-requires
schema-right-requires c =
    let plan = plan_of c.args.plan.now.arena in
    named-as (is_under plan.nodes c.args.plan.now.root) c.second_or.ensures (second-under plan c.args.plan.now.root c.args.n c.requires.good c.requires.under c.args.inputs.now (node_of c.args.node.now) c.requires.at c.requires.inputs)

pub returns-clause-parts : goal.returns-clause-parts
returns-clause-parts c =
    let schema = schema_of (plan_of c.args.plan.now.arena) in
    c.in_ok-share.ensures.parts
    ∙ all-seen schema c.args.n (node_of c.args.node.now) (formulas_in c.args.conjuncts) c.args.inputs.now c.schema-left.result.now c.schema-right.result.now c.requires.inputs (c.schema-left.ensures ∙ ap schema c.first_or.ensures) (c.schema-right.ensures ∙ ap schema c.second_or.ensures)

pub share-requires-clause-begins : goal.share-requires-clause-begins
share-requires-clause-begins c passed =
    let schema = schema_of (plan_of c.args.plan.now.arena) in
    let left = c.schema-left.ensures ∙ ap schema c.first_or.ensures ∙ ap (λ l. schema (first_or c.args.n l)) c.requires.inputs in
    subst (λ f. BeginsWith f c.schema-left.result.now) (sym c.schema-own.ensures)
    (subst (BeginsWith (schema c.args.n)) (sym left)
    (begins (plan_of c.args.plan.now.arena) c.args.plan.now.root c.requires.good c.args.n c.requires.under (node_of c.args.node.now) c.requires.at passed))

pub share-requires-clause-over : goal.share-requires-clause-over
share-requires-clause-over c = subst (λ f. AreOver f c.args.conjuncts) (sym c.schema-own.ensures) c.requires.over

pub returns-clause-over : goal.returns-clause-over
returns-clause-over c is =
    let schema = schema_of (plan_of c.args.plan.now.arena) in
    let left = c.schema-left.ensures ∙ ap schema (c.first_or.ensures ∙ ap (first_or c.args.n) c.requires.inputs ∙ join-first c.args.n (node_of c.args.node.now) is) in
    subst (λ f. AreOver f c.in_ok-share.field-0.left) left c.in_ok-share.ensures.over
