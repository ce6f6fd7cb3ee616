-- The value and the line of a job.
use Rattle.std.proofs.Common.{◌≡◌, ◌≤◌, ℕ, List, Some, Result, Ok, Err, Vec, Global, false, sym, ap, subst, ◌∙◌}
use Rattle.std.specs.Prelude.{IfOk}
use Rattle.std.specs.List.{AllByRecursion}
use Rattle.std.specs.Str.{IsUtf8}
use Rattle.serde_json.specs.Data.{Data, depth}
use Rattle.serde_json.specs.Read.{read, max_depth}
use Rattle.serde_json.specs.Written.{has_float}
use Rattle.pipe_job.specs.JobSpelling.{Spells, Task, TaskFits, task_of, task_spelling}
use Rattle.pipe_job.specs.Line.{line_of}
use Rattle.pipe_job.specs.NodeSpelling.{Fits32}
use Rattle.pipe_job.specs.Reading.{ReadsJob}
use Rattle.pipe_job.specs.declared.jobs.Job.{Job}
use Rattle.pipe_spell.specs.Ranges.{IrInRange, TaskInRange}
use Rattle.pipe_spell.proofs.Floats.{task_plain}
use Rattle.pipe_spell.proofs.RangeLists.{nodes_in_range}

pub job_in_range : (job : Job) → Fits32 job.config.workers → Fits32 job.config.chunk_rows → Fits32 job.config.row_limit → Fits32 job.root → AllByRecursion IrInRange job.arena.nodes → TaskInRange (task_of job)
job_in_range job workers chunk_rows row_limit root nodes = record { workers = workers; chunk_rows = chunk_rows; row_limit = row_limit; root = root; nodes = nodes_in_range job.arena.nodes nodes }

pub spells_task : (v : Data) (t : Task) → v ≡ task_spelling t → TaskFits t → Spells v t
spells_task v t spelled fits = record { spelled = spelled; fits = fits }

pub line_text : (line : List ℕ) (v : Data) (t : Task) → v ≡ task_spelling t → (has_float v ≡ false → line ≡ line_of v) → line ≡ line_of (task_spelling t)
line_text line v t spelled text = text (ap has_float spelled ∙ task_plain t) ∙ ap line_of spelled

pub line_reads : (line : List ℕ) (v : Data) (t : Task) → v ≡ task_spelling t → IsUtf8 line → (depth v ≤ max_depth → read line ≡ Some v) → TaskFits t → depth (task_spelling t) ≤ max_depth → ReadsJob line t
line_reads line v t spelled utf8 reads fits shallow = record {
  value = v;
  reading = record { utf8 = utf8; reads = reads (subst (λ (d : Data). depth d ≤ max_depth) (sym spelled) shallow) };
  spelled = spells_task v t spelled fits;
}

pub both_read : {E : Type 0} (r : Result (Vec ℕ Global) E) (v : Data) (t : Task) → v ≡ task_spelling t → IfOk r (λ line. IsUtf8 line.items) → IfOk r (λ line. depth v ≤ max_depth → read line.items ≡ Some v)
    → IfOk r (λ line. TaskFits t → depth (task_spelling t) ≤ max_depth → ReadsJob line.items t)
both_read (Ok line) v t spelled utf8 reads = λ fits shallow. line_reads line.items v t spelled utf8 reads fits shallow
both_read (Err e) v t spelled utf8 reads = tt
