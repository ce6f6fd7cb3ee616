use Rattle.std.proofs.Common.{◌≡◌, true, subst}
use Rattle.pipe_view.specs.Kept.{Kept}
use Rattle.pipe_view.specs.Sides.{is_view_kind}
use Rattle.pipe_view.proofs.view.View.is_kept.Goals as goal

pub returns : goal.returns
returns c = subst (λ (v : Kept). is_view_kind v.options.how ≡ true) c.self.view_is c.self.invariant.kind
