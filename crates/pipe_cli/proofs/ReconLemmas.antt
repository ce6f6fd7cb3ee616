-- Reconciliations: what bytes spell, how one ends, and why their command's contract is sound.
use Rattle.std.proofs.Common.{Result, Ok, Err, ◌≡◌, ◌≤◌, ◌<◌, ℕ, zero, suc, Bool, true, false, List, [], ◌∷◌, Option, Some, None, inl, inr, refl, ap, subst, sym, ◌∙◌, arith}
use Rattle.std.proofs.lemmas.Option.{none-some, same_Some}
use Rattle.serde_json.specs.Data.{Data}
use Rattle.pipe_cli.specs.FaultLine.{fault_status}
use Rattle.pipe_frame.specs.Frame.{Table}
use Rattle.pipe_plan.specs.Faults.{or_else, told, told_name}
use Rattle.pipe_plan.specs.declared.error.PipeError.{PipeError}
use Rattle.pipe_plan.specs.declared.error.PipeError.TheVariants as error
use Rattle.pipe_recon.specs.Ends as ends
use Rattle.pipe_recon.specs.FullJoin.{IsWithin, height_at}
use Rattle.pipe_recon.specs.Refusals.{has_no_key, is_bad_key, lacks_name, recon_fault, types_differ, types_fault}
use Rattle.pipe_recon.specs.declared.recon.Recon.{Recon}
use Rattle.pipe_recon.specs.declared.recon_spec.ReconSpec.{ReconSpec}
use Rattle.pipe_recon.specs.ReconLines.{recon_lines}
use Rattle.pipe_recon.specs.ReconReading.{ReadsNoReconJob, ReadsReconJob}
use Rattle.pipe_recon.specs.ReconSpelling.{Spells}
use Rattle.pipe_recon.specs.declared.recon_job.ReconJob.{ReconJob}
use Rattle.pipe_recon.proofs.OneReconJob.{one_recon_job}
use Rattle.pipe_cli.specs.Commands.ReconcileCommand.{reconcile}
use Rattle.pipe_cli.specs.Contract.{Answered, Because, Causes, CommandEndsWith, CommandFails, IsKind, IsLawful, Unread}
use Rattle.pipe_cli.specs.Recons.{IsRefusedRecon, IsSoundRecon, IsWithinRecon, recon_kind, recon_of}
use Rattle.pipe_cli.specs.Refused.{Tells}
use Rattle.pipe_cli.specs.Status.{OneOf, status_of}
use Rattle.pipe_cli.specs.declared.status.Refusal.{Refusal}
use Rattle.pipe_cli.specs.declared.status.Refusal.TheVariants as refusal
use Rattle.pipe_cli.proofs.JobLemmas.{one_reading}
use Rattle.pipe_cli.proofs.RuleLemmas.{among, because_told, caused_only, found, unread_told}

-- ---- what bytes spell

-- bytes spell one reconciliation at most
same_recon : (bytes : List ℕ) (s t : ReconJob) → ReadsReconJob bytes s → ReadsReconJob bytes t → s ≡ t
same_recon bytes s t r q = one_recon_job q.value s t (subst (λ (v : Data). Spells v s) (one_reading bytes r.value q.value r.reading q.reading) r.spelled) q.spelled

-- what spells a reconciliation doesn't spell none
none_recon : (bytes : List ℕ) (job : ReconJob) → ReadsNoReconJob bytes → ReadsReconJob bytes job → ⊥
none_recon bytes job n j = n.none job (subst (λ (v : Data). Spells v job) (one_reading bytes j.value n.value j.reading n.reading) j.spelled)

recon_is_kind : IsKind recon_kind
recon_is_kind = record {
  one = λ bytes a b r q. same_recon bytes a b r q;
  text = λ bytes a n j. n.none j.value j.reading;
  some = λ bytes a n j. none_recon bytes a n j;
  apart = λ bytes n m. n.none m.value m.reading;
}

-- ---- refusals

-- a sound reconciliation isn't refused
sound_alone : (job : ReconJob) (e : PipeError) → IsSoundRecon job → IsRefusedRecon job e → ⊥
sound_alone job e sound (inl bad) = bad.bad sound.numbers
sound_alone job e sound (inr fault) = none-some e (sym sound.good ∙ fault.told)

-- one that is refused has one error
one_refusal : (job : ReconJob) (d e : PipeError) → IsRefusedRecon job d → IsRefusedRecon job e → d ≡ e
one_refusal job d e (inl a) (inl b) = a.told ∙ sym b.told
one_refusal job d e (inl a) (inr b) = absurd (a.bad b.numbers)
one_refusal job d e (inr a) (inl b) = absurd (b.bad a.numbers)
one_refusal job d e (inr a) (inr b) = same_Some _ _ (sym a.told ∙ b.told)

-- a fault has status 6
abbrev IsFault : Option PipeError → Type 0
IsFault None = Unit {0}
IsFault (Some e) = fault_status e ≡ 6

of_else : (a b : Option PipeError) → IsFault a → IsFault b → IsFault (or_else a b)
of_else (Some e) b h k = h
of_else None b h k = k

of_told : (holds : Bool) (e : PipeError) → fault_status e ≡ 6 → IsFault (told holds e)
of_told true e h = h
of_told false e h = tt

of_name : (e : List ℕ → PipeError) (name : Option (List ℕ)) → ((n : List ℕ) → fault_status (e n) ≡ 6) → IsFault (told_name e name)
of_name e None h = tt
of_name e (Some n) h = h n

fault_is : (left right : Table) (on : List (List ℕ)) → IsFault (recon_fault left right on)
fault_is left right on =
    of_else (lacks_name 0 left.schema on) (or_else (lacks_name 1 right.schema on) (or_else (types_fault left.schema right.schema on) (has_no_key on))) (of_name (error.UnknownColumn 0) _ (λ n. refl))
    (of_else (lacks_name 1 right.schema on) (or_else (types_fault left.schema right.schema on) (has_no_key on)) (of_name (error.UnknownColumn 1) _ (λ n. refl))
    (of_else (types_fault left.schema right.schema on) (has_no_key on) (of_told (types_differ left.schema right.schema on) (error.TypeMismatch 2) refl) (of_told (is_bad_key on) (error.BadJoin 2) refl)))

pub refused_six : (job : ReconJob) (e : PipeError) → IsRefusedRecon job e → fault_status e ≡ 6
refused_six job e (inl bad) = ap fault_status bad.told
refused_six job e (inr fault) = subst (λ (o : Option PipeError). IsFault o) fault.told (fault_is job.left job.right job.spec.on)

refused_unstopped : (job : ReconJob) (e : PipeError) → IsRefusedRecon job e → e ≡ error.Stopped → ⊥
refused_unstopped job e h same = let six : 8 ≡ 6 = sym (ap fault_status same) ∙ refused_six job e h in omega (arith, six)

-- ---- runs

recon_ends : (job : ReconJob) (e : PipeError) → ends.ReconciliationFails job.left job.right job.spec job.config e → CommandEndsWith reconcile job e
recon_ends job error.BadConfig f = f.ends
recon_ends job (error.BadNode n) f = f.ends
recon_ends job (error.UnknownColumn n name) f = f.ends
recon_ends job (error.DuplicateName n name) f = f.ends
recon_ends job (error.TypeMismatch n) f = f.ends
recon_ends job (error.BadJoin n) f = f.ends
recon_ends job (error.BadSort n) f = f.ends
recon_ends job (error.TooMany n) f = f.ends
recon_ends job error.Stopped f = f.ends
recon_ends job error.Memory f = f.ends

recon_fails : (job : ReconJob) (e : PipeError) → ends.ReconciliationFails job.left job.right job.spec job.config e → CommandFails reconcile job e
recon_fails job e f = record { sound = f.sound; ends = recon_ends job e f }

-- an error is told of the reconciliation
pub told_recon : (r : Refusal) (job : ReconJob) (e : PipeError) → ends.ReconCauses job.left job.right job.spec job.config e → Tells r e → Because reconcile r job
told_recon refusal.BadWords job e h t = absurd t
told_recon refusal.ReadFault job e h t = absurd t
told_recon refusal.TooLong job e h t = absurd t
told_recon refusal.NotJson job e h t = absurd t
told_recon refusal.NotJob job e h t = absurd t
told_recon (refusal.Fault line) job e (inl m) t = absurd (let ten : 6 ≡ 10 = t.0 ∙ ap fault_status m in omega (arith, ten))
told_recon (refusal.Fault line) job e (inr (inl h)) t = record { error = e; ends = inl h; status_is = t.0; line_is = t.1 }
told_recon (refusal.Fault line) job e (inr (inr f)) t = record { error = e; ends = inr (recon_fails job e f); status_is = t.0; line_is = t.1 }
told_recon (refusal.TooMany line) job e (inl m) t = absurd (let ten : 7 ≡ 10 = t.0 ∙ ap fault_status m in omega (arith, ten))
told_recon (refusal.TooMany line) job e (inr (inl h)) t = record { error = e; ends = inl h; status_is = t.0; line_is = t.1 }
told_recon (refusal.TooMany line) job e (inr (inr f)) t = record { error = e; ends = inr (recon_fails job e f); status_is = t.0; line_is = t.1 }
told_recon refusal.Stopped job e (inl m) t = absurd (cc)
told_recon refusal.Stopped job e (inr (inl h)) t = absurd (refused_unstopped job e h t)
told_recon refusal.Stopped job e (inr (inr f)) t = f.sound
told_recon refusal.WriteFault job e h t = absurd t
told_recon refusal.Memory job e h t = tt

pub recon_told : (r : Refusal) (bytes : List ℕ) (job : ReconJob) → ReadsReconJob bytes job → Because reconcile r job → Causes reconcile r bytes
recon_told r bytes job read b = because_told reconcile r bytes job read b

pub unread_recon : (r : Refusal) (bytes : List ℕ) → Unread recon_kind r bytes → Causes reconcile r bytes
unread_recon r bytes u = unread_told reconcile r bytes u

pub recon_only : (r : Refusal) (bytes : List ℕ) → Causes reconcile r bytes → OneOf reconcile.statuses (status_of r)
recon_only r bytes h = among (4 ∷ 5 ∷ 6 ∷ 7 ∷ 8 ∷ 10 ∷ []) reconcile.statuses refl (status_of r) (caused_only reconcile r bytes h)

-- the lines of a reconciliation that was read are the answer
pub recon_answer : (bytes text : List ℕ) (job : ReconJob) (recon : Recon) → ReadsReconJob bytes job → IsSoundRecon job → IsWithinRecon job → recon ≡ recon_of job → text ≡ recon_lines recon → Answered reconcile bytes text
recon_answer bytes text job recon read sound within same e = record { input = job; read = read; sound = sound; within = within; answer = e ∙ ap recon_lines same }

never_many : (left right : Table) (spec : ReconSpec) (most : ℕ) → IsWithin most left right spec → (n : ℕ) → most < height_at left right spec n → ⊥
never_many left right spec most within zero h = let few = within.left_rows in omega (arith, h, few)
never_many left right spec most within (suc zero) h = let few = within.right_rows in omega (arith, h, few)
never_many left right spec most within (suc (suc zero)) h = let few = within.join_rows in omega (arith, h, few)
never_many left right spec most within (suc (suc (suc n))) h = omega (arith, h)

pub reconcile_lawful : IsLawful reconcile
reconcile_lawful = record {
  kind = recon_is_kind;
  sound = λ job e s r. sound_alone job e s r;
  one_error = λ job d e h k. one_refusal job d e h k;
  within = λ job n m w. never_many job.left job.right job.spec job.config.row_limit w n m;
  stops = λ h. refl;
  answers = found 0 reconcile.statuses refl;
  writes = found 9 reconcile.statuses refl;
}
