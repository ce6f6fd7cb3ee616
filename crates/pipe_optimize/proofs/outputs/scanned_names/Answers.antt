use Rattle.std.proofs.Common.{ap, sym, ◌∙◌}
use Rattle.std.proofs.lemmas.Result.{IfOk-weaker}
use Rattle.pipe_schema.specs.Schema.{names_of}
use Rattle.pipe_plan.specs.Schemas.{frame_at, scan_fields}
use Rattle.pipe_rules.proofs.Kept.{names-named}
use Rattle.pipe_optimize.proofs.outputs.scanned_names.Goals as goal

pub returns-in-Some : goal.returns-in-Some
returns-in-Some c =
    let schema = (frame_at c.args.frames.now c.args.frame).schema in
    IfOk-weaker c.copied.result _ _ (λ made h. h ∙ c.as_slice.ensures ∙ sym (ap (λ o. names_of (scan_fields schema o)) c.in-Some.is ∙ names-named schema c.in-Some.names)) c.copied.ensures
