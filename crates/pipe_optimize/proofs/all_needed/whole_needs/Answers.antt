use Rattle.std.proofs.Common.{◌++◌, ◌∷◌, [], None, ap, ◌∙◌, arith}
use Rattle.std.proofs.lemmas.List.{replicate-append-replicate}
use Rattle.pipe_optimize.proofs.all_needed.whole_needs.Goals as goal

pub loop-preserved : goal.loop-preserved
loop-preserved c = record {
  upto = omega arith;
  whole = c.in_ok-push.ensures.items ∙ ap (λ l. l ++ None ∷ []) c.loop.invariant.whole ∙ replicate-append-replicate c.loop.counter 1 None;
}
