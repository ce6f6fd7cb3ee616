use Rattle.std.proofs.Common.{ℕ, ◌≤◌, length, sym, subst}
use Rattle.std.proofs.lemmas.List.{length-map}
use Rattle.pipe_plan.specs.Faults.{most_nodes}
use Rattle.pipe_plan.specs.Node.{node_of}
use Rattle.pipe_plan.specs.declared.arena.Arena.{Arena}
use Rattle.pipe_replay.proofs.Worlds.{starts}
use Rattle.pipe_replay.proofs.world.World.start.Goals as goal

pub of-requires : goal.of-requires
of-requires c = record {
  few = subst (λ (a : Arena). length a.nodes ≤ most_nodes) (sym c.arena-arena.ensures.arena) (subst (λ (n : ℕ). n ≤ most_nodes) (length-map c.args.plan.now.arena.nodes node_of) c.arena-arena.ensures.good.few);
}

pub returns-clause-plan : goal.returns-clause-plan
returns-clause-plan c =
    starts c.args.plan.now c.arena-arena.result.now c.root.result c.args.workers c.partition_count.result c.len-nodes.result c.in_ok-tables.tables c.in_ok-lists.lists c.in_ok-progress.progress c.arena-arena.ensures.arena c.root.ensures.root c.len-nodes.ensures c.in_ok-tables.ensures.tables c.in_ok-tables.ensures.root c.partition_count.ensures c.in_ok-progress.ensures.nodes c.in_ok-lists.ensures
