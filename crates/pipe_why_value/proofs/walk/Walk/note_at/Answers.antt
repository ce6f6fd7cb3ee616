use Rattle.pipe_why_text.specs.declared.steps.Step.TheVariants as step
use Rattle.pipe_why_value.proofs.Looks.{noted_deeper}
use Rattle.pipe_why_value.proofs.walk.Walk.note_at.Goals as goal

pub returns : goal.returns
returns c = λ p e f there inner good bad own.
    noted_deeper (step.Item c.args.i) (step.Member c.args.name.now) p e f c.args.wrong
    c.args.self.now c.enter_item.new.self c.enter.new.self c.note.new.self c.leave.new.self c.leave-2.new.self
    c.in_ok-enter_item.ensures c.in_ok-enter.ensures c.in_ok-note.ensures.noted c.leave.ensures c.leave-2.ensures there inner good bad own
