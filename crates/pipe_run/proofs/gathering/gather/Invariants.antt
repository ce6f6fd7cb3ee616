use Rattle.std.proofs.Common.{◌≡◌, ◌-◌, ◌≤◌, ◌++◌, All, vec_len}
use Rattle.std.specs.List.{flat_map}
use Rattle.pipe_schema.specs.Counts.{Counts}
use Rattle.pipe_schema.specs.Rows.{Same}
use Rattle.pipe_run.specs.Lanes.{IsSet, held_in}
use Rattle.pipe_run.proofs.Combining.{Gathering}
use Rattle.pipe_run.proofs.gathering.gather.Given as goal

abbrev pub invariant-loop-lane : goal.invariant-loop-lane
invariant-loop-lane g l =
    let sink = g.K.Sink in
    let check = g.C.StopCheck in
    record {
      few : vec_len l.lanes ≤ vec_len l.fn.lanes;
      settings : All (IsSet sink.setting (sink.setting l.fn.sink)) l.lanes.items;
      schemas : All (IsSet sink.schema (sink.schema l.fn.sink)) l.lanes.items;
      setting : sink.setting l.sink ≡ sink.setting l.fn.sink;
      schema : sink.schema l.sink ≡ sink.schema l.fn.sink;
      gives : sink.gives l.sink ≡ sink.gives l.fn.sink;
      held : Same (sink.held l.sink ++ flat_map (held_in sink.held) l.lanes.items) (sink.held l.fn.sink ++ flat_map (held_in sink.held) l.fn.lanes.items);
      asked : Counts (vec_len l.fn.lanes - vec_len l.lanes) (check.asked l.fn.stop) (check.asked l.stop);
      yes : Counts 0 (check.yes l.fn.stop) (check.yes l.stop);
      going : Gathering sink.held l.fn.lanes.items l.lanes.items (check.asked l.fn.stop) (check.asked l.stop) (sink.held l.fn.sink) (sink.held l.sink);
    }

abbrev pub decreases-loop-lane : goal.decreases-loop-lane
decreases-loop-lane g l = vec_len l.lanes
