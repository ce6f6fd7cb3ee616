use Rattle.std.proofs.Common.{◌≡◌, ℕ, ◌-◌, ◌+◌, arith, refl, sym, ◌∙◌, subst, Some, length-append, vec_len}
use Rattle.std.proofs.lemmas.List.Elements.{All-pop}
use Rattle.std.proofs.lemmas.List.Sorted.{All-permutation}
use Rattle.pipe_schema.specs.Counts.{Counts}
use Rattle.pipe_schema.specs.Rows.{Row}
use Rattle.pipe_run.specs.Lanes.{IsSet}
use Rattle.pipe_run.proofs.Asked.{counts-next, counts-none}
use Rattle.pipe_chain.proofs.Weighing.{rows-refl, rows-append}
use Rattle.pipe_run.proofs.LaneSteps.{gathered-in, gather-room, held-permuted}
use Rattle.pipe_run.proofs.Combining.{gathering-none, gathering-next, gathering-stopped}
use Rattle.pipe_run.proofs.gathering.gather.Goals as goal

pub loop-lane-init : goal.loop-lane-init
loop-lane-init g c =
    let p = c.reverse.ensures.permutation in
    let asked = g.C.StopCheck.asked c.args.stop.now in
    let none : 0 ≡ vec_len c.args.lanes - vec_len c.reverse.new.self = omega (arith, c.reverse.ensures.len) in
    record {
      few = omega (arith, c.reverse.ensures.len);
      settings = All-permutation (IsSet g.K.Sink.setting (g.K.Sink.setting c.args.sink.now)) _ _ p c.requires.settings;
      schemas = All-permutation (IsSet g.K.Sink.schema (g.K.Sink.schema c.args.sink.now)) _ _ p c.requires.schemas;
      setting = refl;
      schema = refl;
      gives = refl;
      held = rows-append (rows-refl _) (held-permuted g.K.Sink.held _ _ p);
      asked = subst (λ (n : ℕ). Counts n asked asked) none (counts-none asked);
      yes = counts-none _;
      going = gathering-none g.K.Sink.held c.args.lanes.items c.reverse.new.self.items asked (g.K.Sink.held c.args.sink.now) c.reverse.ensures.items;
    }

pub returns-then-should_stop-clause-yes : goal.returns-then-should_stop-clause-yes
returns-then-should_stop-clause-yes g c =
    let now = rw c.if-should_stop.true at c.should_stop.ensures.yes in
    counts-next 0 1 _ _ _ c.loop-lane.invariant.yes now

pub returns-then-should_stop-clause-stopped : goal.returns-then-should_stop-clause-stopped
returns-then-should_stop-clause-stopped g c =
    λ e. gathering-stopped g.K.Sink.held _ _ _ _ _ _ _ c.should_stop.ensures.asked c.loop-lane.invariant.going

pub combine-requires-clause-setting : goal.combine-requires-clause-setting
combine-requires-clause-setting g c =
    (All-pop (IsSet g.K.Sink.setting (g.K.Sink.setting c.args.sink.now)) c.loop-lane.lanes.items c.pop.new.self.items (Some c.in-Some.lane) c.in-Some.ensures.items c.loop-lane.invariant.settings).1 ∙ sym c.loop-lane.invariant.setting

pub combine-requires-clause-schema : goal.combine-requires-clause-schema
combine-requires-clause-schema g c =
    (All-pop (IsSet g.K.Sink.schema (g.K.Sink.schema c.args.sink.now)) c.loop-lane.lanes.items c.pop.new.self.items (Some c.in-Some.lane) c.in-Some.ensures.items c.loop-lane.invariant.schemas).1 ∙ sym c.loop-lane.invariant.schema

pub combine-requires-clause-room : goal.combine-requires-clause-room
combine-requires-clause-room g c =
    gather-room g.K.Sink.held c.loop-lane.sink c.loop-lane.lanes.items c.pop.new.self.items c.in-Some.lane _ 4294967294 c.in-Some.ensures.items c.loop-lane.invariant.held (omega (arith, c.requires.room, length-append {A = Row}))

pub returns-in_default-combine-clause-yes : goal.returns-in_default-combine-clause-yes
returns-in_default-combine-clause-yes g c =
    let now = rw c.if-should_stop.false at c.should_stop.ensures.yes in
    counts-next 0 0 _ _ _ c.loop-lane.invariant.yes now

pub loop-lane-preserved : goal.loop-lane-preserved
loop-lane-preserved g c =
    let known = c.loop-lane.invariant in
    let p = c.combine.ensures in
    let joined = c.in-Ok.ensures.held in
    let yes = rw c.if-should_stop.false at c.should_stop.ensures.yes in
    let before = vec_len c.args.lanes - vec_len c.loop-lane.lanes in
    let more : before + 1 ≡ vec_len c.args.lanes - vec_len c.pop.new.self = omega (arith, c.in-Some.ensures.cases, known.few) in
    record {
      few = omega (arith, c.in-Some.ensures.cases, known.few);
      settings = (All-pop (IsSet g.K.Sink.setting (g.K.Sink.setting c.args.sink.now)) c.loop-lane.lanes.items c.pop.new.self.items (Some c.in-Some.lane) c.in-Some.ensures.items known.settings).0;
      schemas = (All-pop (IsSet g.K.Sink.schema (g.K.Sink.schema c.args.sink.now)) c.loop-lane.lanes.items c.pop.new.self.items (Some c.in-Some.lane) c.in-Some.ensures.items known.schemas).0;
      setting = p.setting ∙ known.setting;
      schema = p.schema ∙ known.schema;
      gives = p.gives ∙ known.gives;
      held = gathered-in g.K.Sink.held _ _ c.loop-lane.lanes.items c.pop.new.self.items c.in-Some.lane _ c.in-Some.ensures.items joined known.held;
      asked = subst (λ (n : ℕ). Counts n (g.C.StopCheck.asked c.args.stop.now) (g.C.StopCheck.asked c.should_stop.new.self)) more (counts-next before 1 _ _ _ known.asked c.should_stop.ensures.asked);
      yes = counts-next 0 0 _ _ _ known.yes yes;
      going = gathering-next g.K.Sink.held _ _ c.pop.new.self.items c.in-Some.lane _ _ _ _ _ _ c.in-Some.ensures.items c.should_stop.ensures.asked joined known.going;
    }
