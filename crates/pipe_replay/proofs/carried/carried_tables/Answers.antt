use Rattle.pipe_world.specs.Staged.{staged}
use Rattle.pipe_world.specs.Shown.{world_of}
use Rattle.pipe_replay.specs.Carried.{load_table}
use Rattle.pipe_replay.proofs.CarriedLemmas.{tables-next}
use Rattle.pipe_replay.proofs.carried.carried_tables.Goals as goal

pub loop-load-preserved : goal.loop-load-preserved
loop-load-preserved c =
    tables-next (load_table (staged c.args.plan.now) (world_of c.args.world.now).bag) c.args.worker c.pending-loads.result.now c.loop-load.load-index c.load-item.result c.loop-load.tables _ c.loop-load.invariant c.loop-load-test.true c.load-item.is c.in_ok-push_flows.ensures
