use Rattle.pipe_value.specs.View.{view}
use Rattle.pipe_value.specs.declared.value.Value.{Value}
use denote.Ref.{Bor}
use Rattle.pipe_view.specs.RawReplays.{has_members}
use Rattle.pipe_view.proofs.Outlines.{no_limit, no_version, passed}
use Rattle.pipe_view.proofs.outline.outline_of.Goals as goal

pub returns-in_err-row_limit : goal.returns-in_err-row_limit
returns-in_err-row_limit c =
    passed {X = Bor Value} (has_members (view c.args.value.now)) _ (λ _. Unit {0}) _ c.in_err-row_limit.field-0.0 c.from_residual-in_err-row_limit.result c.in_err-row_limit.ensures c.from_residual-in_err-row_limit.ensures.1
    (λ h. no_limit (view c.args.value.now) _ _ _ _ _ _ _ c.in_ok-members.ensures c.in_ok-edits.ensures c.in_ok-frames.ensures c.in_ok-join.ensures h)

pub returns-in_err-version : goal.returns-in_err-version
returns-in_err-version c =
    passed {X = Bor Value} (has_members (view c.args.value.now)) _ (λ _. Unit {0}) _ c.in_err-version.field-0.0 c.from_residual-in_err-version.result c.in_err-version.ensures c.from_residual-in_err-version.ensures.1
    (λ h. no_version (view c.args.value.now) _ _ _ _ _ _ _ _ _ c.in_ok-members.ensures c.in_ok-edits.ensures c.in_ok-frames.ensures c.in_ok-join.ensures c.in_ok-row_limit.ensures h)
