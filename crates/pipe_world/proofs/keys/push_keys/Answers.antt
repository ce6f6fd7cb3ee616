use Rattle.std.proofs.Common.{◌≡◌, ◌+◌, [], ◌∷◌, ◌++◌, take, ap, sym, ◌∙◌}
use Rattle.std.proofs.lemmas.List.{take_more}
use Rattle.pipe_world.proofs.KeyLemmas.{added-start, added-more}
use Rattle.pipe_world.proofs.keys.push_keys.Goals as goal

pub loop-key-init : goal.loop-key-init
loop-key-init c = added-start c.args.flagged.now

pub loop-key-preserved : goal.loop-key-preserved
loop-key-preserved c =
    let keys = c.args.keys.now in
    let k = c.loop-key.key-index in
    let item = c.key-item.result in
    let more : take (k + 1) keys ≡ take k keys ++ item ∷ [] = take_more keys k item c.loop-key-test.true ∙ ap (λ x. take k keys ++ x ∷ []) (sym c.key-item.is) in
    rw more (added-more (take k keys) c.args.flagged.now c.loop-key.flagged _ item c.loop-key.invariant c.in_ok-push_key.ensures)
