use Rattle.std.proofs.Common.{List, ap, subst, sym}
use Rattle.pipe_schema.specs.declared.field.Field.{Field}
use Rattle.pipe_expr.specs.Formula.{formulas_of}
use Rattle.pipe_expr.specs.Joins.{Join}
use Rattle.pipe_convert.proofs.Joined.{left_under, right_under}
use Rattle.worked_operators.specs.Sides.{IsSideOrNone}
use Rattle.worked_operators.proofs.sides.join_of.Goals as goal

pub scanned-requires : goal.scanned-requires
scanned-requires c = left_under c.args.plan.now c.args.n c.args.left c.args.right (formulas_of c.args.left_on.now) (formulas_of c.args.right_on.now) c.args.options.now c.known_well_formed.ensures c.requires

pub scanned-requires-2 : goal.scanned-requires-2
scanned-requires-2 c = right_under c.args.plan.now c.args.n c.args.left c.args.right (formulas_of c.args.left_on.now) (formulas_of c.args.right_on.now) c.args.options.now c.known_well_formed.ensures c.requires

pub both-requires-clause-left : goal.both-requires-clause-left
both-requires-clause-left c = subst (λ (s : List Field). IsSideOrNone s c.in_ok-lefts.lefts) (sym (ap (λ (j : Join). j.left) c.in_ok-spec.ensures.settings)) c.in_ok-lefts.ensures

pub both-requires-clause-right : goal.both-requires-clause-right
both-requires-clause-right c = subst (λ (s : List Field). IsSideOrNone s c.in_ok-rights.rights) (sym (ap (λ (j : Join). j.right) c.in_ok-spec.ensures.settings)) c.in_ok-rights.ensures
