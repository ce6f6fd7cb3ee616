-- What `optimize` writes, its refusals, and a run on its text.
use Rattle.std.proofs.Common.{◌≡◌, ◌≤◌, ◌<◌, ◌*◌, ℕ, List, [], ◌∷◌, map, length, inl, inr, refl, sym, ap, subst, ◌∙◌, arith, true, Some}
use Rattle.std.specs.Prelude.{IfOk, Ok, Result}
use Rattle.std.proofs.lemmas.Option.{same_Some}
use Rattle.pipe_exec.proofs.Complete.{sound_refused}
use Rattle.pipe_cli.specs.FaultLine.{fault_status}
use Rattle.pipe_schema.specs.Rows.{SameLines}
use Rattle.pipe_job.specs.JobSpelling.{Task, TaskFits, task_spelling}
use Rattle.pipe_job.specs.Line.{head_line, line_of, lines, row_line}
use Rattle.pipe_job.specs.Reading.{ReadsJob}
use Rattle.pipe_rules.specs.Grown.{AreWithin, over}
use Rattle.pipe_rules.specs.Low.{AreLow, is_sort}
use Rattle.pipe_rules.specs.Sizes.{IsTooLarge}
use Rattle.pipe_rules.specs.Sorts.{Sorting, sorting_of}
use Rattle.pipe_driver.specs.Within.{AllWithin}
use Rattle.pipe_schema.proofs.Weights.{SameBag-map, SameBag-from_rows, SameLines-from_bag}
use Rattle.pipe_plan.specs.Config.{IsConfig}
use Rattle.pipe_plan.specs.Faults.{IsWellFormed}
use Rattle.pipe_plan.specs.Node.{Node}
use Rattle.pipe_plan.specs.Node as node
use Rattle.pipe_plan.specs.Under.{node_at}
use Rattle.pipe_plan.specs.declared.ir.SortOptions.{SortOptions}
use Rattle.pipe_plan.specs.PlanRows.{rows_of}
use Rattle.pipe_plan.specs.Schemas.{schema_of}
use Rattle.pipe_plan.specs.declared.error.PipeError.{PipeError}
use Rattle.pipe_plan.specs.declared.error.PipeError.TheVariants as error
use Rattle.pipe_spell.specs.Ranges.{TaskInRange}
use Rattle.pipe_spell.proofs.Known.{fits_with_other_nodes}
use Rattle.serde_json.specs.Data.{depth}
use Rattle.serde_json.specs.Read.{max_depth}
use Rattle.pipe_cli.specs.Commands.OptimizeCommand.{optimize}
use Rattle.pipe_cli.specs.Commands.RunCommand.{run}
use Rattle.pipe_cli.specs.Contract.{Answered, Because, Causes, CommandEndsWith, CommandFails, IsLawful, Unread}
use Rattle.pipe_cli.specs.Jobs.{IsLookedAt, IsRowLines, IsSoundJob, job_kind}
use Rattle.pipe_cli.specs.Optimized.{HaveSameLines, IsBetter, IsBetterPlan, IsOptimized, most_under, nodes_under, with_nodes}
use Rattle.pipe_cli.specs.OptimizedRuns.{OptimizedTextRuns, OptimizedTextGivesTheRows}
use Rattle.pipe_cli.specs.Refused.{Tells}
use Rattle.pipe_cli.specs.Status.{OneOf, status_of}
use Rattle.pipe_cli.specs.declared.status.Refusal.{Refusal}
use Rattle.pipe_cli.specs.declared.status.Refusal.TheVariants as refusal
use Rattle.pipe_cli.proofs.LiteralLemmas.{known_with_nodes}
use Rattle.pipe_cli.proofs.JobLemmas.{job_is_kind, looked_only, one_refusal, same_job}
use Rattle.pipe_cli.proofs.RuleLemmas.{among, apart, because_told, found, unread_only, unread_told}

-- ---- refusals

-- one that is looked at
pub looked_optimize : (r : Refusal) (job : Task) → IsLookedAt r job → Because optimize r job
looked_optimize refusal.BadWords job h = absurd h
looked_optimize refusal.ReadFault job h = absurd h
looked_optimize refusal.TooLong job h = absurd h
looked_optimize refusal.NotJson job h = absurd h
looked_optimize refusal.NotJob job h = absurd h
looked_optimize (refusal.Fault line) job h = record { error = h.error; ends = inl h.refused; status_is = h.status_is; line_is = h.line_is }
looked_optimize (refusal.TooMany line) job h = record { error = h.error; ends = inl h.refused; status_is = h.status_is; line_is = h.line_is }
looked_optimize refusal.Stopped job h = absurd h
looked_optimize refusal.WriteFault job h = absurd h
looked_optimize refusal.Memory job h = tt

-- one whose nodes are too many
pub large_optimize : (r : Refusal) (job : Task) (e : PipeError) → IsSoundJob job → IsTooLarge job.plan.nodes job.root e → Tells r e → Because optimize r job
large_optimize refusal.BadWords job e s h t = absurd t
large_optimize refusal.ReadFault job e s h t = absurd t
large_optimize refusal.TooLong job e s h t = absurd t
large_optimize refusal.NotJson job e s h t = absurd t
large_optimize refusal.NotJob job e s h t = absurd t
large_optimize (refusal.Fault line) job e s (inl m) t = absurd (let ten : 6 ≡ 10 = t.0 ∙ ap fault_status m in omega (arith, ten))
large_optimize (refusal.Fault line) job e s (inr m) t = absurd (let seven : 6 ≡ 7 = t.0 ∙ ap fault_status m.0 in omega (arith, seven))
large_optimize (refusal.TooMany line) job e s (inl m) t = absurd (let ten : 7 ≡ 10 = t.0 ∙ ap fault_status m in omega (arith, ten))
large_optimize (refusal.TooMany line) job e s (inr m) t = record {
  error = e;
  ends = inr (record { sound = s; ends = subst (CommandEndsWith optimize job) (sym m.0) (refl, m.1) });
  status_is = t.0;
  line_is = t.1;
}
large_optimize refusal.Stopped job e s (inl m) t = absurd (let ten : 8 ≡ 10 = sym (ap fault_status t) ∙ ap fault_status m in omega (arith, ten))
large_optimize refusal.Stopped job e s (inr m) t = absurd (let seven : 8 ≡ 7 = sym (ap fault_status t) ∙ ap fault_status m.0 in omega (arith, seven))
large_optimize refusal.WriteFault job e s h t = absurd t
large_optimize refusal.Memory job e s h t = tt

pub optimize_told : (r : Refusal) (bytes : List ℕ) (job : Task) → ReadsJob bytes job → Because optimize r job → Causes optimize r bytes
optimize_told r bytes job read b = because_told optimize r bytes job read b

pub unread_optimize : (r : Refusal) (bytes : List ℕ) → Unread job_kind r bytes → Causes optimize r bytes
unread_optimize r bytes u = unread_told optimize r bytes u

-- with which statuses they come
pub looked_optimize_only : (r : Refusal) (job : Task) → IsLookedAt r job → OneOf optimize.statuses (status_of r)
looked_optimize_only r job h = looked_only (λ (job : Task) (text : List ℕ). Unit {0}) r job h

pub large_optimize_only : (r : Refusal) (job : Task) (e : PipeError) → IsTooLarge job.plan.nodes job.root e → Tells r e → OneOf optimize.statuses (status_of r)
large_optimize_only refusal.BadWords job e h t = absurd t
large_optimize_only refusal.ReadFault job e h t = absurd t
large_optimize_only refusal.TooLong job e h t = absurd t
large_optimize_only refusal.NotJson job e h t = absurd t
large_optimize_only refusal.NotJob job e h t = absurd t
large_optimize_only (refusal.Fault line) job e h t = found 6 optimize.statuses refl
large_optimize_only (refusal.TooMany line) job e h t = found 7 optimize.statuses refl
large_optimize_only refusal.Stopped job e (inl m) t = absurd (let ten : 8 ≡ 10 = sym (ap fault_status t) ∙ ap fault_status m in omega (arith, ten))
large_optimize_only refusal.Stopped job e (inr m) t = absurd (let seven : 8 ≡ 7 = sym (ap fault_status t) ∙ ap fault_status m.0 in omega (arith, seven))
large_optimize_only refusal.WriteFault job e h t = absurd t
large_optimize_only refusal.Memory job e h t = found 10 optimize.statuses refl

pub unread_optimize_only : (r : Refusal) (bytes : List ℕ) → Unread job_kind r bytes → OneOf optimize.statuses (status_of r)
unread_optimize_only r bytes u = among (4 ∷ 5 ∷ 10 ∷ []) optimize.statuses refl (status_of r) (unread_only job_kind r bytes u)

pub optimize_answer : (bytes text : List ℕ) (job : Task) → ReadsJob bytes job → IsSoundJob job → nodes_under job ≤ most_under → IsOptimized job text → Answered optimize bytes text
optimize_answer bytes text job read sound small made = record { input = job; read = read; sound = sound; within = small; answer = made }

pub optimize_lawful : IsLawful optimize
optimize_lawful = record {
  kind = job_is_kind;
  sound = λ job e s r. sound_refused job.plan job.root job.config e s r;
  one_error = λ job d e h k. one_refusal job d e h k;
  within = λ job n m w. let more = m.1 in omega (arith, more, w);
  stops = λ h. absurd (apart optimize.statuses 8 refl h);
  answers = found 0 optimize.statuses refl;
  writes = found 9 optimize.statuses refl;
}

-- ---- a run on the text

pub text_runs : OptimizedTextRuns
text_runs bytes text made within short shallow =
    let better = made.answer.better in
    let is = made.answer.is in record {
      short = short;
      holds = record {
        input = better;
        read = made.answer.reads shallow;
        sound = record { numbers = subst IsConfig (sym is.config) made.sound.numbers; formed = is.good };
        within = subst (λ c. AllWithin c.row_limit better.plan better.root) (sym is.config) (is.within made.input.config.row_limit within);
      };
    }

-- what has a sorting is a sort by it
sort_of : (x : Node) (s : Sorting) → sorting_of x ≡ Some s → (input : ℕ) × (x ≡ node.Sort input s.by s.options)
sort_of (node.Sort input by options) s h = (input, ap (λ (q : Sorting). node.Sort input q.by q.options) (same_Some _ _ h))
sort_of (node.DataFrameScan frame columns) s h = cc
sort_of (node.Filter input predicate) s h = cc
sort_of (node.SimpleProjection input columns) s h = cc
sort_of (node.Select input exprs) s h = cc
sort_of (node.HStack input exprs) s h = cc
sort_of (node.MapFunction input function) s h = cc
sort_of (node.Union inputs) s h = cc
sort_of (node.Join left right left_on right_on options) s h = cc

-- the lines of a job and of one with the same rows
lines_joined : (job better : Task) (given again : List ℕ) → IsBetter job better → IsRowLines job given → IsRowLines better again → HaveSameLines job given again
lines_joined job better given again is a b =
    let mapped : SameLines (map row_line (rows_of better.plan better.root)) (map row_line (rows_of job.plan job.root)) = SameLines-from_bag (SameBag-map row_line (SameBag-from_rows is.rows)) in record {
      head = head_line (schema_of job.plan job.root);
      rows_a = a.row_lines;
      rows_b = b.row_lines;
      cut_a = a.cut;
      cut_b = b.cut ∙ ap (λ fields. head_line fields ∷ b.row_lines) is.schema;
      same = record { each = λ line. a.same.each line ∙ sym (mapped.each line) ∙ sym (b.same.each line) };
      in_order = λ input by options e.
          let given_sorts : is_sort (node_at job.plan.nodes job.root) ≡ true = ap is_sort e in
          let s = sort_of (node_at better.plan.nodes better.root) (record { by = by; options = options }) (is.sort given_sorts ∙ ap sorting_of e) in
          a.in_order input by options e ∙ sym (b.in_order s.0 by options s.1 ∙ ap (map row_line) (is.in_order given_sorts));
    }

pub text_gives_rows : OptimizedTextGivesTheRows
text_gives_rows bytes text given again made shallow g a =
    let better = made.answer.better in
    let same_given : g.input ≡ made.input = same_job bytes g.input made.input g.read made.read in
    let same_again : a.input ≡ better = same_job text a.input better a.read (made.answer.reads shallow) in
    lines_joined made.input better given again made.answer.is (subst (λ (job : Task). IsRowLines job given) same_given g.answer) (subst (λ (job : Task). IsRowLines job again) same_again a.answer)

-- ---- what is made of a job

-- what holds of an answer that came
pub answer_has : {A E : Type 0} (F : A → Type 0) (r : Result A E) (x : A) → r ≡ Ok x → IfOk r F → F x
answer_has F r x same h = subst (λ q. IfOk q F) same h

-- the plan that is made, by what is promised of it
pub made_better : (job : Task) (nodes : List Node) (root : ℕ) → IsBetterPlan job.plan job.root nodes root → IsBetter job (with_nodes job nodes root)
made_better job nodes root p = record {
  version = refl;
  config = refl;
  frames = refl;
  good = p.good;
  schema = p.schema;
  rows = p.rows;
  sort = p.sort;
  in_order = p.in_order;
  low = p.low;
  trimmed = p.trimmed;
  whole = p.whole;
  literals = p.literals;
  within = λ limit h. p.within limit h;
  few = p.few;
}

-- the line of the job with other nodes
pub line_made : (job : Task) (nodes : List Node) (root : ℕ) (line : List ℕ) → TaskFits job → IsBetter job (with_nodes job nodes root) → TaskInRange (with_nodes job nodes root)
    → line ≡ line_of (task_spelling (with_nodes job nodes root)) → (TaskFits (with_nodes job nodes root) → depth (task_spelling (with_nodes job nodes root)) ≤ max_depth → ReadsJob line (with_nodes job nodes root))
    → IsOptimized job line
line_made job nodes root line fits is ranges text reads =
    let better = with_nodes job nodes root in
    let fits_too = fits_with_other_nodes job better fits refl refl refl ranges (known_with_nodes job nodes root fits is.literals) in
    record { better = better; is = is; fits = fits_too; text_is = text; reads = λ shallow. reads fits_too shallow }
