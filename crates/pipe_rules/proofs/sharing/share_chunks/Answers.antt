use Rattle.std.proofs.Common.{◌≡◌, ◌<◌, ◌++◌, map, refl, ap, sym, subst, ◌∙◌}
use Rattle.std.specs.List.{AllByRecursion}
use Rattle.pipe_expr.specs.Formula.{formula_of}
use Rattle.pipe_plan.specs.Node.{node_of}
use Rattle.pipe_rules.specs.Reach.{IsChunkOver, far_in, formulas_in_chunks, near_in}
use Rattle.pipe_rules.specs.Values.{placed_in}
use Rattle.pipe_rules.proofs.Reaches.{some-field, chunks-told, near-chunks, far-chunks, chunks-over, parts-shared}
use Rattle.pipe_rules.proofs.sharing.share_chunks.Goals as goal

pub cut-requires : goal.cut-requires
cut-requires c = chunks-told c.args.own.now c.args.chunks c.requires.over

pub returns-clause-parts : goal.returns-clause-parts
returns-clause-parts c =
    let own = c.args.own.now in
    let left = c.args.left.now in
    let chunks = c.args.chunks in
    let some = some-field left c.len.ensures.good in
    let far_is = c.in_ok-near.ensures.far ∙ ap (λ l. map formula_of l ++ far_in c.len.result chunks) c.new-far.ensures ∙ ap (λ n. far_in n chunks) c.len.ensures.count ∙ far-chunks own left (c.requires.begins c.requires.passed) some chunks c.requires.over in
    let near_is = ap formulas_in_chunks (c.in_ok-near.ensures.near ∙ ap (λ n. map (near_in n) chunks) c.len.ensures.count) ∙ near-chunks own left (c.requires.begins c.requires.passed) some chunks c.requires.over in
    parts-shared left c.args.right.now (node_of c.args.node.now) c.requires.passed (formulas_in_chunks chunks) (map formula_of c.cut.new.far) (formulas_in_chunks c.in_ok-near.near) (placed_in c.in_ok-parted.parted) far_is near_is c.in_ok-parted.ensures

pub returns-clause-over : goal.returns-clause-over
returns-clause-over c =
    let own = c.args.own.now in
    let left = c.args.left.now in
    let chunks = c.args.chunks in
    subst (AllByRecursion (IsChunkOver left)) (sym (c.in_ok-near.ensures.near ∙ ap (λ n. map (near_in n) chunks) c.len.ensures.count))
    (chunks-over own left (c.requires.begins c.requires.passed) (some-field left c.len.ensures.good) chunks c.requires.over)
