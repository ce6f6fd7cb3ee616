use Rattle.std.proofs.Common.{ℕ, Err, ap, rules, subst, sym}
use Rattle.std.specs.Option.{option_copied}
use Rattle.pipe_cli.specs.Whys.{WhyEnds}
use Rattle.pipe_cli.proofs.StatusLemmas.{is_long}
use Rattle.pipe_cli.proofs.WhyLemmas.{no_zero, why_refused, why_written}
use Rattle.pipe_cli.proofs.why.tell_why.Goals as goal

pub returns-in-Ok-clause-ends : goal.returns-in-Ok-clause-ends
returns-in-Ok-clause-ends g c =
    why_written (option_copied c.args.name) (g.R.JobReader.seen c.args.input.now) (g.R.JobReader.seen c.tell_at.new.input) (g.W.RowWriter.seen c.args.out.now) (g.W.RowWriter.seen c.tell_at.new.out) (g.N.RowWriter.seen c.args.notes.now) (search rules) (search rules)

pub returns-in-Err-clause-ends : goal.returns-in-Err-clause-ends
returns-in-Err-clause-ends g c =
    subst (λ (n : ℕ). WhyEnds (option_copied c.args.name) n (g.R.JobReader.seen c.args.input.now) (g.R.JobReader.seen c.tell_at.new.input) (g.W.RowWriter.seen c.args.out.now) (g.W.RowWriter.seen c.tell_at.new.out) (g.N.RowWriter.seen c.args.notes.now) (g.N.RowWriter.seen c.note.new.notes)) (sym c.status.ensures)
    (why_refused (option_copied c.args.name) c.in-Err.refusal (g.R.JobReader.seen c.args.input.now) (g.R.JobReader.seen c.tell_at.new.input) (g.W.RowWriter.seen c.args.out.now) (g.W.RowWriter.seen c.tell_at.new.out) (g.N.RowWriter.seen c.args.notes.now) (g.N.RowWriter.seen c.note.new.notes) (search rules) (no_zero c.in-Err.refusal) (search rules) (λ e. c.in-Err.ensures.most (ap (λ x. Err x) (is_long c.in-Err.refusal e))) (search rules) (search rules) (search rules) (search rules))
