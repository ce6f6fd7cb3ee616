use Rattle.std.proofs.Common.{◌+◌, ◌-◌, ◌≤◌, length}
use Rattle.pipe_run.specs.Claimed.{drawn_in, parts_lot, IsSeated, Took}
use Rattle.pipe_run.specs.Flushes.{flushed_by, IsFlushFit}
use Rattle.pipe_run.specs.Lanes.{IsCalm}
use Rattle.pipe_run.proofs.flushing.flush_parts.Given as goal

abbrev pub invariant-loop-alloc : goal.invariant-loop-alloc
invariant-loop-alloc g l =
    let op = g.O.Operator in
    let sink = g.K.Sink in
    let from = flushed_by op l.fn.lane in
    record {
      seated : IsSeated l.claims.table l.lane;
      calm : IsCalm l.lane;
      few : length (drawn_in l.lane) ≤ l.parts;
      fit : IsFlushFit op sink l.own l.others l.context.row_limit from l.lane;
      took : Took op sink l.others l.context.row_limit (parts_lot g.O.FlushParts.parts g.O.FlushParts.part_of from l.own) (drawn_in l.lane) l.fn.lane l.lane;
    }

abbrev pub decreases-loop-alloc : goal.decreases-loop-alloc
decreases-loop-alloc g l = l.parts + 1 - length (drawn_in l.lane)
