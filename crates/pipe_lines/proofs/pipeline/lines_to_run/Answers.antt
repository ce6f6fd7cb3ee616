use Rattle.std.proofs.Common.{◌≡◌, ◌∷◌, [], ◌++◌, length, map, sym, ap, ◌∙◌, append_assoc, append-nil, arith}
use Rattle.std.proofs.lemmas.List.{nil_from_length}
use Rattle.std.specs.Vec.Iter.{into_iter_items}
use Rattle.pipe_lines.specs.Cuts.{way_in}
use Rattle.pipe_lines.proofs.pipeline.lines_to_run.Goals as goal

pub loop-pipeline-preserved : goal.loop-pipeline-preserved
loop-pipeline-preserved g c =
    let at = c.loop-pipeline in
    let x = c.in-Some.pipeline in
    let steps : into_iter_items at.pipeline-iterator ≡ x ∷ into_iter_items c.next.new.self = c.in-Some.ensures.steps.0 in
    let made : c.into_legs.result ≡ way_in x = c.into_legs.ensures in (
      rw (c.in_ok-push.ensures.items, made) (append_assoc at.lines.items (way_in x ∷ []) (map way_in (into_iter_items c.next.new.self)) ∙ ap (λ l. at.lines.items ++ map way_in l) (sym steps) ∙ at.invariant.0),
      let was = at.invariant.1 in
          let gone = c.in-Some.ensures.steps.1 in
          let short = ap length steps in
          omega (arith, was, gone, short),
    )

pub returns : goal.returns
returns g c =
    let at = c.loop-pipeline in
    let none = c.in-None.ensures.steps in
    let empty : into_iter_items at.pipeline-iterator ≡ [] = nil_from_length _ (sym at.invariant.1 ∙ none.0) in
    sym (append-nil at.lines.items) ∙ rw empty at at.invariant.0 ∙ ap (map way_in) c.into_iter-pipeline-iterator.ensures.into_iter_gives.0
