use Rattle.std.proofs.Common.{◌+◌, ◌∷◌, ◌++◌, drop, ap, sym, ◌∙◌, append_assoc, rules}
use Rattle.std.proofs.Output.{has_written_append}
use Rattle.std.proofs.lemmas.List.{drop_more}
use Rattle.std.specs.List.{flat_map}
use Rattle.pipe_lines.specs.Lines.{stage_text}
use Rattle.pipe_lines.proofs.text.write_stages.Goals as goal

pub loop-stage-preserved : goal.loop-stage-preserved
loop-stage-preserved g c = λ plain.
    let so_far = c.loop-stage.invariant plain in
    let stages = c.args.stages.now in
    let i = c.loop-stage.stage-index in
    let stage = c.stage-item.result in
    let more = drop_more stages i stage c.loop-stage-test.true ∙ ap (λ x. x ∷ drop (i + 1) stages) (sym c.stage-item.is) in (
      so_far.0 ++ stage_text stage,
      has_written_append _ _ _ _ _ _ so_far.1 (search rules),
      append_assoc so_far.0 (stage_text stage) _ ∙ ap (λ l. so_far.0 ++ flat_map stage_text l) (sym more) ∙ so_far.2,
    )
