use Rattle.std.proofs.Common.{refl, ap, ◌∙◌, take, length, ◌-◌}
use Rattle.pipe_why_value.proofs.Looks.{left_steps}
use Rattle.pipe_why_value.proofs.walk.Walk.leave.Goals as goal

pub returns : goal.returns
returns c = record {
  steps = λ steps s was. left_steps steps s c.args.self.now.steps.items _ (c.truncate.ensures.items ∙ ap (λ n. take n c.args.self.now.steps.items) (c.saturating_sub-above.ensures ∙ ap (λ l. length l - 1) c.as_slice.ensures.value)) was;
  first = refl;
}
