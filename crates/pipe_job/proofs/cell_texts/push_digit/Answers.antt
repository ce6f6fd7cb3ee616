use Rattle.pipe_job.proofs.Texts.{escape_byte-digit}
use Rattle.pipe_job.proofs.cell_texts.push_digit.Goals as goal

pub returns : goal.returns
returns c = rw (escape_byte-digit c.args.value c.requires) c.push_byte.ensures
