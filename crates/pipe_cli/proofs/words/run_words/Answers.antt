use Rattle.std.proofs.Common.{ℕ, Err, ap, rules, subst, sym}
use Rattle.pipe_cli.specs.Streams.{StreamEnds}
use Rattle.pipe_cli.proofs.StatusLemmas.{is_long}
use Rattle.pipe_cli.proofs.StreamEndings.{stream_refused, stream_written}
use Rattle.pipe_cli.proofs.words.run_words.Goals as goal

pub returns-in-Ok-clause-stream : goal.returns-in-Ok-clause-stream
returns-in-Ok-clause-stream g c = λ _.
    stream_written (g.R.JobReader.seen c.args.input.now) (g.R.JobReader.seen c.stream_left.new.input) (g.W.RowWriter.seen c.args.out.now) (g.W.RowWriter.seen c.stream_left.new.out) (g.N.RowWriter.seen c.args.notes.now) (search rules) (search rules)

pub returns-in-Err-clause-stream : goal.returns-in-Err-clause-stream
returns-in-Err-clause-stream g c = λ _.
    subst (λ (n : ℕ). StreamEnds n (g.R.JobReader.seen c.args.input.now) (g.R.JobReader.seen c.stream_left.new.input) (g.W.RowWriter.seen c.args.out.now) (g.W.RowWriter.seen c.stream_left.new.out) (g.N.RowWriter.seen c.args.notes.now) (g.N.RowWriter.seen c.note.new.notes)) (sym c.status.ensures)
    (stream_refused c.in-Err.refusal (g.R.JobReader.seen c.args.input.now) (g.R.JobReader.seen c.stream_left.new.input) (g.W.RowWriter.seen c.args.out.now) (g.W.RowWriter.seen c.stream_left.new.out) (g.N.RowWriter.seen c.args.notes.now) (g.N.RowWriter.seen c.note.new.notes) (search rules) (search rules) (λ e. c.in-Err.ensures.most (ap (λ x. Err x) (is_long c.in-Err.refusal e))) (search rules) (search rules) (search rules))
