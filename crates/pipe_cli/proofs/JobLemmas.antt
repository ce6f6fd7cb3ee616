-- Jobs: what bytes spell, how one ends, and why the contracts of their commands are sound.
use Rattle.std.proofs.Common.{Result, Ok, Err, ◌≡◌, ◌⊎◌, ℕ, List, [], ◌∷◌, ◌++◌, inl, inr, map, refl, ap, subst, sym, ◌∙◌, arith}
use Rattle.std.specs.Prelude.{IfErr}
use Rattle.std.specs.Result.{IsErrAnd}
use Rattle.std.specs.List.{flat_map}
use Rattle.std.proofs.lemmas.Option.{same_Some}
use Rattle.serde_json.specs.Data.{Data}
use Rattle.pipe_driver.specs.Within.{HasTooMany}
use Rattle.pipe_exec.specs.Evaluated.{HasRowsOf}
use Rattle.pipe_exec.specs.Runs as runs
use Rattle.pipe_exec.specs.Runs.{RunCauses}
use Rattle.pipe_exec.specs.Sound.{CheckCauses}
use Rattle.pipe_exec.proofs.Complete.{sound_refused}
use Rattle.pipe_exec.proofs.Unstopped.{refused_unstopped}
use Rattle.pipe_cli.specs.FaultLine.{fault_status}
use Rattle.pipe_frame.specs.Frame.{Table}
use Rattle.pipe_schema.proofs.Weights.{SameBag-map, SameBag-from_rows, SameLines-from_bag}
use Rattle.pipe_job.specs.JobSpelling.{Spells, Task}
use Rattle.pipe_job.specs.Line.{head_line, row_line, lines}
use Rattle.pipe_job.specs.Reading.{Reading, ReadsJob, ReadsNoJob, ReadsNothing}
use Rattle.pipe_job.proofs.Cut.{lines-frame}
use Rattle.pipe_job.proofs.OneJob.{one_job}
use Rattle.pipe_plan.specs.declared.error.PipeError.{PipeError}
use Rattle.pipe_plan.specs.declared.error.PipeError.TheVariants as error
use Rattle.pipe_plan.specs.Schemas.{schema_of}
use Rattle.pipe_cli.specs.Commands.RunCommand.{run}
use Rattle.pipe_cli.specs.Commands.StreamCommand.{stream}
use Rattle.pipe_cli.specs.Contract.{Answered, Because, Causes, EndsBy, CommandEndsWith, CommandFails, IsKind, IsLawful, Unread}
use Rattle.pipe_cli.specs.Jobs.{IsLookedAt, IsRefusedJob, IsRefusedWith, IsRowLines, IsSoundJob, IsWithinJob, ReadsJobOf, ReadsOtherJob, job_kind, jobs_of, looks_at, looks_at_those}
use Rattle.pipe_cli.specs.Refused.{Tells}
use Rattle.pipe_cli.specs.Status.{OneOf, status_of}
use Rattle.pipe_cli.specs.declared.status.Refusal.{Refusal}
use Rattle.pipe_cli.specs.declared.status.Refusal.TheVariants as refusal
use Rattle.pipe_cli.proofs.RuleLemmas.{among, apart, because_told, caused_only, found, unread_only, unread_told}

-- ---- what bytes spell

-- bytes have one reading
pub one_reading : (bytes : List ℕ) (v w : Data) → Reading bytes v → Reading bytes w → v ≡ w
one_reading bytes v w r s = same_Some _ _ (sym r.reads ∙ s.reads)

-- and spell one job at most
pub same_job : (bytes : List ℕ) (s t : Task) → ReadsJob bytes s → ReadsJob bytes t → s ≡ t
same_job bytes s t r q = one_job q.value s t (subst (λ (v : Data). Spells v s) (one_reading bytes r.value q.value r.reading q.reading) r.spelled) q.spelled

-- what spells a job doesn't spell none
none_job : (bytes : List ℕ) (job : Task) → ReadsNoJob bytes → ReadsJob bytes job → ⊥
none_job bytes job n j = n.none job (subst (λ (v : Data). Spells v job) (one_reading bytes j.value n.value j.reading n.reading) j.spelled)

pub job_is_kind : IsKind job_kind
job_is_kind = record {
  one = λ bytes a b r q. same_job bytes a b r q;
  text = λ bytes a n j. n.none j.value j.reading;
  some = λ bytes a n j. none_job bytes a n j;
  apart = λ bytes n m. n.none m.value m.reading;
}

-- what the value that was read spells
pub job_read : (bytes : List ℕ) (value : Data) (job : Task) → Reading bytes value → Spells value job → ReadsJob bytes job
job_read bytes value job reading spelled = record { value = value; reading = reading; spelled = spelled }

pub no_job_read : (bytes : List ℕ) (value : Data) → Reading bytes value → ((job : Task) → Spells value job → ⊥) → ReadsNoJob bytes
no_job_read bytes value reading none = record { value = value; reading = reading; none = none }

-- ---- refusals

-- one that is refused has one error
pub one_refusal : (job : Task) (d e : PipeError) → IsRefusedJob job d → IsRefusedJob job e → d ≡ e
one_refusal job d e (inl a) (inl b) = a.told ∙ sym b.told
one_refusal job d e (inl a) (inr b) = absurd (a.bad b.numbers)
one_refusal job d e (inr a) (inl b) = absurd (b.bad a.numbers)
one_refusal job d e (inr a) (inr b) = same_Some _ _ (sym a.told ∙ b.told)

-- ---- jobs that are looked at

pub looked_at : (r : Refusal) (job : Task) (e : PipeError) → CheckCauses job.plan job.root job.config e → Tells r e → IsLookedAt r job
looked_at refusal.BadWords job e h t = t
looked_at refusal.ReadFault job e h t = t
looked_at refusal.TooLong job e h t = t
looked_at refusal.NotJson job e h t = t
looked_at refusal.NotJob job e h t = t
looked_at (refusal.Fault line) job e (inl m) t = absurd (let ten : 6 ≡ 10 = t.0 ∙ ap fault_status m in omega (arith, ten))
looked_at (refusal.Fault line) job e (inr h) t = record { error = e; refused = h; status_is = t.0; line_is = t.1 }
looked_at (refusal.TooMany line) job e (inl m) t = absurd (let ten : 7 ≡ 10 = t.0 ∙ ap fault_status m in omega (arith, ten))
looked_at (refusal.TooMany line) job e (inr h) t = record { error = e; refused = h; status_is = t.0; line_is = t.1 }
looked_at refusal.Stopped job e h t = refused_unstopped job.plan job.root job.config e h t
looked_at refusal.WriteFault job e h t = t
looked_at refusal.Memory job e h t = tt

looked_because : (A : Task → List ℕ → Type 0) (r : Refusal) (job : Task) → IsLookedAt r job → Because (looks_at A) r job
looked_because A refusal.BadWords job h = absurd h
looked_because A refusal.ReadFault job h = absurd h
looked_because A refusal.TooLong job h = absurd h
looked_because A refusal.NotJson job h = absurd h
looked_because A refusal.NotJob job h = absurd h
looked_because A (refusal.Fault line) job h = record { error = h.error; ends = inl h.refused; status_is = h.status_is; line_is = h.line_is }
looked_because A (refusal.TooMany line) job h = record { error = h.error; ends = inl h.refused; status_is = h.status_is; line_is = h.line_is }
looked_because A refusal.Stopped job h = absurd h
looked_because A refusal.WriteFault job h = absurd h
looked_because A refusal.Memory job h = tt

pub looked_told : (A : Task → List ℕ → Type 0) (r : Refusal) (bytes : List ℕ) (job : Task) → ReadsJob bytes job → IsLookedAt r job → Causes (looks_at A) r bytes
looked_told A r bytes job read h = because_told (looks_at A) r bytes job read (looked_because A r job h)

pub unread_looked : (A : Task → List ℕ → Type 0) (r : Refusal) (bytes : List ℕ) → Unread job_kind r bytes → Causes (looks_at A) r bytes
unread_looked A r bytes u = unread_told (looks_at A) r bytes u

pub looked_only : (A : Task → List ℕ → Type 0) (r : Refusal) (job : Task) → IsLookedAt r job → OneOf (looks_at A).statuses (status_of r)
looked_only A refusal.BadWords job h = absurd h
looked_only A refusal.ReadFault job h = absurd h
looked_only A refusal.TooLong job h = absurd h
looked_only A refusal.NotJson job h = absurd h
looked_only A refusal.NotJob job h = absurd h
looked_only A (refusal.Fault line) job h = inr (inr (inr (inr (inr (inl refl)))))
looked_only A (refusal.TooMany line) job h = inr (inr (inr (inr (inr (inr (inl refl))))))
looked_only A refusal.Stopped job h = absurd h
looked_only A refusal.WriteFault job h = absurd h
looked_only A refusal.Memory job h = inr (inr (inr (inr (inr (inr (inr (inr (inl refl))))))))

pub unread_looked_only : (A : Task → List ℕ → Type 0) (r : Refusal) (bytes : List ℕ) → Unread job_kind r bytes → OneOf (looks_at A).statuses (status_of r)
unread_looked_only A r bytes u = among (4 ∷ 5 ∷ 10 ∷ []) (looks_at A).statuses refl (status_of r) (unread_only job_kind r bytes u)

pub looked_answer : (A : Task → List ℕ → Type 0) (bytes text : List ℕ) (job : Task) → ReadsJob bytes job → IsSoundJob job → A job text → Answered (looks_at A) bytes text
looked_answer A bytes text job read sound a = record { input = job; read = read; sound = sound; within = tt; answer = a }

pub looks_lawful : (A : Task → List ℕ → Type 0) → IsLawful (looks_at A)
looks_lawful A = record {
  kind = job_is_kind;
  sound = λ job e s r. sound_refused job.plan job.root job.config e s r;
  one_error = λ job d e h k. one_refusal job d e h k;
  within = λ job n m w. m;
  stops = λ h. absurd (apart (looks_at A).statuses 8 refl h);
  answers = found 0 (looks_at A).statuses refl;
  writes = found 9 (looks_at A).statuses refl;
}

-- ---- jobs for which something holds

none_of : (H : Task → Type 0) (bytes : List ℕ) (job : Task) → ReadsNoJob bytes ⊎ ReadsOtherJob H bytes → ReadsJobOf H bytes job → ⊥
none_of H bytes job (inl n) j = none_job bytes job n j.read
none_of H bytes job (inr o) j = o.other (subst H (same_job bytes job o.job j.read o.read) j.holds)

apart_of : (H : Task → Type 0) (bytes : List ℕ) → ReadsNothing bytes → ReadsNoJob bytes ⊎ ReadsOtherJob H bytes → ⊥
apart_of H bytes n (inl m) = n.none m.value m.reading
apart_of H bytes n (inr o) = n.none o.read.value o.read.reading

jobs_are_kind : (H : Task → Type 0) → IsKind (jobs_of H)
jobs_are_kind H = record {
  one = λ bytes a b r q. same_job bytes a b r.read q.read;
  text = λ bytes a n j. n.none j.read.value j.read.reading;
  some = λ bytes a n j. none_of H bytes a n j;
  apart = λ bytes n m. apart_of H bytes n m;
}

-- what spells no job spells none of these
pub unread_of : (H : Task → Type 0) (r : Refusal) (bytes : List ℕ) → Unread job_kind r bytes → Unread (jobs_of H) r bytes
unread_of H refusal.BadWords bytes u = absurd u
unread_of H refusal.ReadFault bytes u = absurd u
unread_of H refusal.TooLong bytes u = absurd u
unread_of H refusal.NotJson bytes u = u
unread_of H refusal.NotJob bytes u = inl u
unread_of H (refusal.Fault line) bytes u = absurd u
unread_of H (refusal.TooMany line) bytes u = absurd u
unread_of H refusal.Stopped bytes u = absurd u
unread_of H refusal.WriteFault bytes u = absurd u
unread_of H refusal.Memory bytes u = tt

pub other_job : (H : Task → Type 0) (bytes : List ℕ) (job : Task) → ReadsJob bytes job → (H job → ⊥) → Unread (jobs_of H) refusal.NotJob bytes
other_job H bytes job read other = inr record { job = job; read = read; other = other }

pub job_of_those : (H : Task → Type 0) (bytes : List ℕ) (job : Task) → ReadsJob bytes job → H job → ReadsJobOf H bytes job
job_of_those H bytes job read holds = record { read = read; holds = holds }

those_because : (H : Task → Type 0) (A : Task → List ℕ → Type 0) (r : Refusal) (job : Task) → IsLookedAt r job → Because (looks_at_those H A) r job
those_because H A refusal.BadWords job h = absurd h
those_because H A refusal.ReadFault job h = absurd h
those_because H A refusal.TooLong job h = absurd h
those_because H A refusal.NotJson job h = absurd h
those_because H A refusal.NotJob job h = absurd h
those_because H A (refusal.Fault line) job h = record { error = h.error; ends = inl h.refused; status_is = h.status_is; line_is = h.line_is }
those_because H A (refusal.TooMany line) job h = record { error = h.error; ends = inl h.refused; status_is = h.status_is; line_is = h.line_is }
those_because H A refusal.Stopped job h = absurd h
those_because H A refusal.WriteFault job h = absurd h
those_because H A refusal.Memory job h = tt

pub those_told : (H : Task → Type 0) (A : Task → List ℕ → Type 0) (r : Refusal) (bytes : List ℕ) (job : Task) → ReadsJobOf H bytes job → IsLookedAt r job → Causes (looks_at_those H A) r bytes
those_told H A r bytes job read h = because_told (looks_at_those H A) r bytes job read (those_because H A r job h)

pub unread_those : (H : Task → Type 0) (A : Task → List ℕ → Type 0) (r : Refusal) (bytes : List ℕ) → Unread (jobs_of H) r bytes → Causes (looks_at_those H A) r bytes
unread_those H A r bytes u = unread_told (looks_at_those H A) r bytes u

pub those_only : (H : Task → Type 0) (A : Task → List ℕ → Type 0) (r : Refusal) (job : Task) → IsLookedAt r job → OneOf (looks_at_those H A).statuses (status_of r)
those_only H A r job h = looked_only A r job h

pub unread_those_only : (H : Task → Type 0) (A : Task → List ℕ → Type 0) (r : Refusal) (bytes : List ℕ) → Unread (jobs_of H) r bytes → OneOf (looks_at_those H A).statuses (status_of r)
unread_those_only H A r bytes u = among (4 ∷ 5 ∷ 10 ∷ []) (looks_at_those H A).statuses refl (status_of r) (unread_only (jobs_of H) r bytes u)

pub those_answer : (H : Task → Type 0) (A : Task → List ℕ → Type 0) (bytes text : List ℕ) (job : Task) → ReadsJobOf H bytes job → IsSoundJob job → A job text → Answered (looks_at_those H A) bytes text
those_answer H A bytes text job read sound a = record { input = job; read = read; sound = sound; within = tt; answer = a }

pub those_lawful : (H : Task → Type 0) (A : Task → List ℕ → Type 0) → IsLawful (looks_at_those H A)
those_lawful H A = record {
  kind = jobs_are_kind H;
  sound = λ job e s r. sound_refused job.plan job.root job.config e s r;
  one_error = λ job d e h k. one_refusal job d e h k;
  within = λ job n m w. m;
  stops = λ h. absurd (apart (looks_at_those H A).statuses 8 refl h);
  answers = found 0 (looks_at_those H A).statuses refl;
  writes = found 9 (looks_at_those H A).statuses refl;
}

-- ---- jobs that are run

run_ends : (job : Task) (e : PipeError) → runs.RunFails job.plan job.root job.config e → CommandEndsWith run job e
run_ends job error.BadConfig f = f.ends
run_ends job (error.BadNode n) f = f.ends
run_ends job (error.UnknownColumn n name) f = f.ends
run_ends job (error.DuplicateName n name) f = f.ends
run_ends job (error.TypeMismatch n) f = f.ends
run_ends job (error.BadJoin n) f = f.ends
run_ends job (error.BadSort n) f = f.ends
run_ends job (error.TooMany n) f = f.ends
run_ends job error.Stopped f = f.ends
run_ends job error.Memory f = f.ends

run_fails : (job : Task) (e : PipeError) → runs.RunFails job.plan job.root job.config e → CommandFails run job e
run_fails job e f = record { sound = f.sound; ends = run_ends job e f }

-- an error of a run is told of the job
pub told_run : (r : Refusal) (job : Task) (e : PipeError) → RunCauses job.plan job.root job.config e → Tells r e → Because run r job
told_run refusal.BadWords job e h t = absurd t
told_run refusal.ReadFault job e h t = absurd t
told_run refusal.TooLong job e h t = absurd t
told_run refusal.NotJson job e h t = absurd t
told_run refusal.NotJob job e h t = absurd t
told_run (refusal.Fault line) job e (inl (inl m)) t = absurd (let ten : 6 ≡ 10 = t.0 ∙ ap fault_status m in omega (arith, ten))
told_run (refusal.Fault line) job e (inl (inr h)) t = record { error = e; ends = inl h; status_is = t.0; line_is = t.1 }
told_run (refusal.Fault line) job e (inr f) t = record { error = e; ends = inr (run_fails job e f); status_is = t.0; line_is = t.1 }
told_run (refusal.TooMany line) job e (inl (inl m)) t = absurd (let ten : 7 ≡ 10 = t.0 ∙ ap fault_status m in omega (arith, ten))
told_run (refusal.TooMany line) job e (inl (inr h)) t = record { error = e; ends = inl h; status_is = t.0; line_is = t.1 }
told_run (refusal.TooMany line) job e (inr f) t = record { error = e; ends = inr (run_fails job e f); status_is = t.0; line_is = t.1 }
told_run refusal.Stopped job e (inl h) t = absurd (refused_unstopped job.plan job.root job.config e h t)
told_run refusal.Stopped job e (inr f) t = f.sound
told_run refusal.WriteFault job e h t = absurd t
told_run refusal.Memory job e h t = tt

pub run_told : (r : Refusal) (bytes : List ℕ) (job : Task) → ReadsJob bytes job → Because run r job → Causes run r bytes
run_told r bytes job read b = because_told run r bytes job read b

pub unread_run : (r : Refusal) (bytes : List ℕ) → Unread job_kind r bytes → Causes run r bytes
unread_run r bytes u = unread_told run r bytes u

pub run_only : (r : Refusal) (bytes : List ℕ) → Causes run r bytes → OneOf run.statuses (status_of r)
run_only r bytes h = among (4 ∷ 5 ∷ 6 ∷ 7 ∷ 8 ∷ 10 ∷ []) run.statuses refl (status_of r) (caused_only run r bytes h)

-- the text of a frame that has the plan's schema and rows is the answer
row_lines_of : (job : Task) (text : List ℕ) (frame : Table) → frame.schema ≡ schema_of job.plan job.root → HasRowsOf job.plan job.root frame.rows → text ≡ head_line frame.schema ++ flat_map row_line frame.rows → IsRowLines job text
row_lines_of job text frame schema rows e = record {
  row_lines = map row_line frame.rows;
  cut = ap lines e ∙ lines-frame frame.schema frame.rows ∙ ap (λ fields. head_line fields ∷ map row_line frame.rows) schema;
  same = SameLines-from_bag (SameBag-map row_line (SameBag-from_rows rows.same));
  in_order = λ input by options sorts. ap (map row_line) (rows.in_order (rw sorts refl));
}

pub run_answer : (bytes text : List ℕ) (job : Task) (frame : Table) → ReadsJob bytes job → IsSoundJob job → IsWithinJob job → frame.schema ≡ schema_of job.plan job.root → HasRowsOf job.plan job.root frame.rows → text ≡ head_line frame.schema ++ flat_map row_line frame.rows → Answered run bytes text
run_answer bytes text job frame read sound within schema rows e = record { input = job; read = read; sound = sound; within = within; answer = row_lines_of job text frame schema rows e }

many_within : (job : Task) (n : ℕ) → HasTooMany job.config.row_limit job.plan job.root n → IsWithinJob job → ⊥
many_within job n h w = let few = w n h.under in let many = h.above in omega (arith, few, many)

pub run_lawful : IsLawful run
run_lawful = record {
  kind = job_is_kind;
  sound = λ job e s r. sound_refused job.plan job.root job.config e s r;
  one_error = λ job d e h k. one_refusal job d e h k;
  within = λ job n m w. many_within job n m w;
  stops = λ h. refl;
  answers = found 0 run.statuses refl;
  writes = found 9 run.statuses refl;
}

pub stream_lawful : IsLawful stream
stream_lawful = record {
  kind = job_is_kind;
  sound = λ job e s r. sound_refused job.plan job.root job.config e s r;
  one_error = λ job d e h k. one_refusal job d e h k;
  within = λ job n m w. many_within job n m w;
  stops = λ h. refl;
  answers = found 0 stream.statuses refl;
  writes = found 9 stream.statuses refl;
}
