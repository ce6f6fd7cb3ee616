use Rattle.std.proofs.Common.{ℕ, subst, sym}
use Rattle.pipe_cli.specs.Outcome.{Noted, NotedFault}
use Rattle.pipe_cli.specs.Status.{IsFixed, status_line}
use Rattle.pipe_cli.proofs.StatusLemmas.{noted_fault, noted_fixed}
use Rattle.pipe_cli.proofs.program.run_program.Goals as goal

pub returns-in-Err-clause-noted : goal.returns-in-Err-clause-noted
returns-in-Err-clause-noted g c =
    subst (λ (n : ℕ). IsFixed n → Noted (status_line n) (g.N.RowWriter.seen c.args.notes.now) (g.N.RowWriter.seen c.note.new.notes)) (sym c.status.ensures)
    (noted_fixed c.in-Err.refusal (g.N.RowWriter.seen c.args.notes.now) (g.N.RowWriter.seen c.note.new.notes) c.note.ensures)

pub returns-in-Err-clause-told : goal.returns-in-Err-clause-told
returns-in-Err-clause-told g c =
    subst (λ (n : ℕ). NotedFault n c.args.words.now (g.R.JobReader.seen c.args.input.now) (g.N.RowWriter.seen c.args.notes.now) (g.N.RowWriter.seen c.note.new.notes)) (sym c.status.ensures)
    (noted_fault c.in-Err.refusal c.args.words.now (g.R.JobReader.seen c.args.input.now) (g.N.RowWriter.seen c.args.notes.now) (g.N.RowWriter.seen c.note.new.notes) c.in-Err.ensures.input c.note.ensures)
