use Rattle.std.proofs.Common.{codes}
use Rattle.pipe_value.specs.View.{view, members_view}
use Rattle.pipe_job.specs.Shape.{is_named, is_expr, is_text, is_end, after, has}
use Rattle.pipe_job.proofs.Shapes.{after_later, after_here, on_object_false, passed_on}
use Rattle.pipe_job.proofs.nodes.NamedExprSpelled.read.Goals as goal

pub returns-in_err-name : goal.returns-in_err-name
returns-in_err-name c =
    let rest = members_view c.take.new.self.rest in
    passed_on (is_named (view c.args.value.now)) (has (codes "name") is_text rest) _ _ _ c.in_err-name.ensures c.from_residual-in_err-name.ensures.1
    (λ no. on_object_false (after (codes "expr") is_expr (after (codes "name") is_text is_end)) _ _ c.in_ok-members.ensures
    (after_later (codes "expr") is_expr (after (codes "name") is_text is_end) _ rest _ _ c.in_ok-expr.ensures (after_here (codes "name") is_text is_end rest no)))
