use Rattle.std.proofs.Common.{◌+◌, ◌-◌, ◌≤◌, length}
use Rattle.pipe_run.specs.Claimed.{schema_in, drawn_in, IsSeated, Took, chunks_lot}
use Rattle.pipe_run.specs.Lanes.{IsFit, IsCalm}
use Rattle.pipe_run.proofs.claiming.take_chunks.Given as goal

abbrev pub invariant-loop-alloc : goal.invariant-loop-alloc
invariant-loop-alloc g l =
    let op = g.O.Operator in
    let sink = g.K.Sink in
    record {
      seated : IsSeated l.claims.table l.lane;
      calm : IsCalm l.lane;
      few : length (drawn_in l.lane) ≤ length l.morsels;
      fit : IsFit op sink l.shared l.context.row_limit (schema_in l.morsels) l.lane;
      took : Took op sink l.shared l.context.row_limit (chunks_lot l.morsels) (drawn_in l.lane) l.fn.lane l.lane;
    }

abbrev pub decreases-loop-alloc : goal.decreases-loop-alloc
decreases-loop-alloc g l = length l.morsels + 1 - length (drawn_in l.lane)
