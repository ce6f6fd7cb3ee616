use Rattle.std.proofs.Common.{subst}
use Rattle.std.specs.Prelude.{IfNone, string_bytes}
use Rattle.pipe_value.specs.View.{view}
use Rattle.pipe_job.specs.JobSpelling.{Spells, Task}
use Rattle.pipe_cli.proofs.WhyLemmas.{place_told}
use Rattle.pipe_cli.proofs.why.job_in.Goals as goal

pub returns-in-Ok-None-clause-tells : goal.returns-in-Ok-None-clause-tells
returns-in-Ok-None-clause-tells c =
    let d = view c.in_ok-value.value in
    place_told (string_bytes c.in_ok-told-in-Ok-None.field-0) c.args.bytes.now d c.in_ok-value.ensures.ok
    (subst (λ found. IfNone found ((task : Task) → Spells d task → ⊥)) c.in-Ok-None.field-0-is c.in-Ok-None.ensures.none) c.in_ok-told-in-Ok-None.ensures
