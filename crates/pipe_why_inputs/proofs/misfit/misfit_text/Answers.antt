use Rattle.std.proofs.Common.{◌≡◌, refl, sym, ap, ◌∙◌, subst, Result, Ok, Err}
use Rattle.std.specs.Prelude.{IfOk, OnOk}
use Rattle.pipe_why_inputs.proofs.misfit.misfit_text.Goals as goal

if_ok : {X E : Type 0} (P Q : X → Type 0) (r : Result X E) → ((x : X) → P x → Q x) → IfOk r P → IfOk r Q
if_ok P Q (Ok x) f h = f x h
if_ok P Q (Err e) f h = h

pub returns-in-Job : goal.returns-in-Job
returns-in-Job c = if_ok _ _ c.job_text.result (λ text tells job. tells) c.job_text.ensures
