use Rattle.std.proofs.Common.{sym}
use Rattle.pipe_value.specs.View.{view}
use Rattle.pipe_why_value.proofs.Looks.{no_text_in, text_there}
use Rattle.pipe_why_value.proofs.walk.text_of.Goals as goal

pub returns-in-Some : goal.returns-in-Some
returns-in-Some c = sym (text_there (view c.args.value.now) c.in-Some.text.now (sym c.in-Some.ensures))

pub returns-in-None : goal.returns-in-None
returns-in-None c = sym (no_text_in (view c.args.value.now) (sym c.in-None.ensures))
