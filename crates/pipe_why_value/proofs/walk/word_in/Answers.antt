use Rattle.std.proofs.Common.{ap, ◌∙◌}
use Rattle.pipe_job.specs.Shape.{text_in}
use Rattle.pipe_why_value.proofs.walk.word_in.Goals as goal

pub returns-in-Some : goal.returns-in-Some
returns-in-Some c = c.text_of.ensures ∙ ap text_in c.in-Some.ensures

pub returns-in-None : goal.returns-in-None
returns-in-None c = ap text_in c.in-None.ensures
