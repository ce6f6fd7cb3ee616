use Rattle.std.proofs.Common.{refl, ap, ◌∙◌}
use Rattle.std.proofs.Common.{not}
use Rattle.pipe_why_value.proofs.Looks.{noted, was_none}
use Rattle.pipe_why_value.proofs.walk.Walk.note.Goals as goal

pub returns-in_ok-steps-clause-noted : goal.returns-in_ok-steps-clause-noted
returns-in_ok-steps-clause-noted c =
    noted c.args.wrong _ c.args.self.now _ (c.in_ok-steps.ensures ∙ c.as_slice.ensures.value) refl refl (was_none c.args.self.now.first (c.is_none.ensures ∙ ap not c.if-is_none.true)) refl
