use Rattle.std.proofs.Common.{arith}
use Rattle.pipe_run.proofs.Splits.{opened-fits, opened-first, opened-first-nodes, opened-alike, opened-calm, opened-acts, opened-within, opened-empty, opened-settings, opened-schemas, opened-gives, all-pushed}
use Rattle.pipe_run.specs.Opens.{IsOpened}
use Rattle.pipe_run.proofs.opening.open_lanes.Goals as goal

pub returns-clause-calm : goal.returns-clause-calm
returns-clause-calm g c = opened-calm g.O.Operator g.K.Sink c.args.stages.now c.args.target.now c.loop-thread_no.lanes.items c.loop-thread_no.invariant.opened

pub returns-clause-fit : goal.returns-clause-fit
returns-clause-fit g c = opened-fits g.O.Operator g.K.Sink c.args.stages.now c.args.target.now c.args.shared.now c.args.context.now.row_limit c.loop-thread_no.lanes.items c.loop-thread_no.invariant.opened c.requires.suits

pub returns-clause-alike : goal.returns-clause-alike
returns-clause-alike g c = opened-alike g.O.Operator g.K.Sink c.args.stages.now c.args.target.now c.args.shared.now c.loop-thread_no.lanes.items c.loop-thread_no.invariant.opened

pub returns-clause-works : goal.returns-clause-works
returns-clause-works g c = opened-first g.O.Operator g.K.Sink c.args.stages.now c.args.target.now c.args.shared.now c.loop-thread_no.lanes.items (omega arith) c.loop-thread_no.invariant.opened

pub returns-clause-nodes : goal.returns-clause-nodes
returns-clause-nodes g c = opened-first-nodes g.O.Operator g.K.Sink c.args.stages.now c.args.target.now c.loop-thread_no.lanes.items (omega arith) c.loop-thread_no.invariant.opened

pub returns-clause-acts : goal.returns-clause-acts
returns-clause-acts g c = opened-acts g.O.Operator g.K.Sink c.args.stages.now c.args.target.now c.loop-thread_no.lanes.items (omega arith) c.loop-thread_no.invariant.opened

pub returns-clause-within : goal.returns-clause-within
returns-clause-within g c = opened-within g.O.Operator g.K.Sink c.args.stages.now c.args.target.now c.loop-thread_no.lanes.items c.loop-thread_no.invariant.opened

pub returns-clause-empty : goal.returns-clause-empty
returns-clause-empty g c = opened-empty g.O.Operator g.K.Sink c.args.stages.now c.args.target.now c.loop-thread_no.lanes.items c.loop-thread_no.invariant.opened

pub returns-clause-settings : goal.returns-clause-settings
returns-clause-settings g c = opened-settings g.O.Operator g.K.Sink c.args.stages.now c.args.target.now c.loop-thread_no.lanes.items c.loop-thread_no.invariant.opened

pub returns-clause-schemas : goal.returns-clause-schemas
returns-clause-schemas g c = opened-schemas g.O.Operator g.K.Sink c.args.stages.now c.args.target.now c.loop-thread_no.lanes.items c.loop-thread_no.invariant.opened

pub returns-clause-gives : goal.returns-clause-gives
returns-clause-gives g c = opened-gives g.O.Operator g.K.Sink c.args.stages.now c.args.target.now c.loop-thread_no.lanes.items c.loop-thread_no.invariant.opened

pub loop-thread_no-preserved : goal.loop-thread_no-preserved
loop-thread_no-preserved g c = record {
  len = omega (arith, c.in_ok-push.ensures.len, c.loop-thread_no.invariant.len);
  opened = all-pushed (IsOpened g.O.Operator g.K.Sink c.args.stages.now c.args.target.now) c.loop-thread_no.lanes.items _ _ c.in_ok-push.ensures.items c.loop-thread_no.invariant.opened c.in_ok-open_lane.ensures;
}
