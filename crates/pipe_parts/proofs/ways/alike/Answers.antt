use Rattle.std.proofs.Common.{◌≡◌, suc, ◌+◌, ◌<◌, ◌∷◌, ◌++◌, [], length, get_or, drop, ap, sym, subst, ◌∙◌, arith}
use Rattle.pipe_parts.specs.Wishes.{alike}
use Rattle.pipe_parts.proofs.Barred.{drop-at, next-alike}
use Rattle.pipe_parts.proofs.ways.alike.Goals as goal

pub loop-input-preserved : goal.loop-input-preserved
loop-input-preserved c =
    let wish = c.args.wish.now in
    let is = c.args.inputs.now in
    let way = c.loop-input.way in
    let i = c.loop-input._input-index in
    let there : i < length is = c.loop-input-test.true in
    let step : drop i is ≡ get_or is i 0 ∷ drop (suc i) is = drop-at is i 0 there in
    let one : c.push.new.self ≡ way ++ wish ∷ [] = c.in_ok-push.ensures.ok ∙ ap (λ w. way ++ w ∷ []) c.in_ok-try_clone.ensures in
    let next : suc i ≡ i + 1 = omega arith in
    let rest : way ++ alike wish (get_or is i 0 ∷ drop (suc i) is) ≡ alike wish is = subst (λ l. way ++ alike wish l ≡ alike wish is) step c.loop-input.invariant in
    let made : (way ++ wish ∷ []) ++ alike wish (drop (suc i) is) ≡ alike wish is = next-alike way (alike wish is) wish (get_or is i 0) (drop (suc i) is) rest in
    ap (λ v. v ++ alike wish (drop (i + 1) is)) one ∙ ap (λ k. (way ++ wish ∷ []) ++ alike wish (drop k is)) (sym next) ∙ made
