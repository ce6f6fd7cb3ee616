use Rattle.std.proofs.Common.{Result, Ok, Err}
use Rattle.std.specs.Prelude.{IfOk}
use Rattle.pipe_why_value.proofs.misfit.is_good_job.Goals as goal

if_ok : {X E : Type 0} (P Q : X → Type 0) (r : Result X E) → ((x : X) → P x → Q x) → IfOk r P → IfOk r Q
if_ok P Q (Ok x) f h = f x h
if_ok P Q (Err e) f h = h

pub returns-in-Job-clause-no : goal.returns-in-Job-clause-no
returns-in-Job-clause-no c = if_ok _ _ c.is_spelled.result (λ holds misspells no job. misspells no) c.is_spelled.ensures.no
