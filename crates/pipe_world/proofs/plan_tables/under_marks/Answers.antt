use Rattle.std.proofs.Common.{◌≡◌, ◌∙◌, sym, map, arith}
use Rattle.std.proofs.lemmas.List.FromFn.{map-range_with_len_more}
use Rattle.pipe_plan.specs.Node.{node_of}
use Rattle.pipe_plan.specs.Under.{is_under}
use Rattle.pipe_world.proofs.plan_tables.under_marks.Goals as goal

pub loop-n-preserved : goal.loop-n-preserved
loop-n-preserved c =
    c.in_ok-push.ensures.ok ∙ rw (c.loop-n.invariant, c.in_ok-is_below.ensures) (sym (map-range_with_len_more (is_under (map node_of c.args.nodes.now) c.args.root) 0 c.loop-n.n c.loop-n.n (omega arith)))
