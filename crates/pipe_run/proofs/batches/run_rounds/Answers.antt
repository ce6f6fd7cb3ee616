use Rattle.std.proofs.Common.{◌*◌, ◌∙◌, arith}
use Rattle.pipe_run.specs.declared.stage.LaneFault.TheVariants.{Memory}
use Rattle.pipe_run.proofs.Asked.{counts-next}
use Rattle.pipe_run.proofs.RoundSteps.{tells-none, same-lanes-length}
use Rattle.pipe_run.proofs.BatchSteps.{got, index-got, got-none, index-same}
use Rattle.pipe_run.proofs.Going.{going-init, ready-schema, ready-alike, ready-fit, left-alike, left-fit, given-few, given-smaller, going-over, going-same, going-next, going-rounds, going-room, going-stopped, none-left-after, going-went, going-memory}
use Rattle.pipe_run.proofs.batches.run_rounds.Goals as goal

pub loop-answer-init : goal.loop-answer-init
loop-answer-init g c =
    going-init g.O.Operator g.K.Sink c.args.shared.now c.args.context.now c.args.next_index.now (g.I.Source.left c.args.source.now) (g.C.StopCheck.asked c.args.stop.now) (g.C.StopCheck.yes c.args.stop.now) c.args.lanes.now c.args.notes.now.items c.requires.some c.requires.schema c.requires.alike c.requires.calm c.requires.fit c.requires.within c.requires.empty

pub get_batches-requires : goal.get_batches-requires
get_batches-requires g c =
    omega (arith, c.loop-answer.invariant.room, c.requires.index)

pub returns-in_default-clause-same : goal.returns-in_default-clause-same
returns-in_default-clause-same g c =
    c.loop-answer.invariant.same

pub returns-in_default-clause-alike : goal.returns-in_default-clause-alike
returns-in_default-clause-alike g c =
    c.loop-answer.invariant.alike

pub returns-in_default-clause-fit : goal.returns-in_default-clause-fit
returns-in_default-clause-fit g c =
    c.loop-answer.invariant.fit

pub returns-in_default-clause-told : goal.returns-in_default-clause-told
returns-in_default-clause-told g c =
    tells-none c.loop-answer.lanes Memory c.loop-answer.invariant.calm

pub returns-in_default-clause-yes : goal.returns-in_default-clause-yes
returns-in_default-clause-yes g c =
    c.loop-answer.invariant.yes_so_far

pub returns-in-Finished-clause-same : goal.returns-in-Finished-clause-same
returns-in-Finished-clause-same g c =
    c.loop-answer.invariant.same

pub returns-in-Finished-clause-alike : goal.returns-in-Finished-clause-alike
returns-in-Finished-clause-alike g c =
    c.loop-answer.invariant.alike

pub returns-in-Finished-clause-fit : goal.returns-in-Finished-clause-fit
returns-in-Finished-clause-fit g c =
    c.loop-answer.invariant.fit

pub returns-in-Finished-clause-calm : goal.returns-in-Finished-clause-calm
returns-in-Finished-clause-calm g c =
    c.loop-answer.invariant.calm

pub returns-in-Finished-clause-within : goal.returns-in-Finished-clause-within
returns-in-Finished-clause-within g c =
    c.loop-answer.invariant.within

pub returns-in-Finished-clause-rounds : goal.returns-in-Finished-clause-rounds
returns-in-Finished-clause-rounds g c =
    going-rounds _ _ _ _ _ _ _ _ _ _ _ _ _ _ _ _ c.loop-answer.invariant _ _ (index-same (4 * c.args.context.now.workers) c.args.context.now.chunk_rows c.loop-answer.next_index (g.I.Source.left c.loop-answer.source) (g.I.Source.left c.get_batches.new.self) c.in-Ok.answer c.in-Ok.ensures.gives c.get_batches.new.next_index c.in-Ok.ensures.index c.in-Finished.is) (got-none (4 * c.args.context.now.workers) c.args.context.now.chunk_rows c.loop-answer.next_index (g.I.Source.left c.loop-answer.source) (g.I.Source.left c.get_batches.new.self) c.in-Ok.answer c.in-Ok.ensures.gives c.get_batches.new.next_index c.in-Ok.ensures.index c.in-Finished.is).1

pub returns-in-Finished-clause-none : goal.returns-in-Finished-clause-none
returns-in-Finished-clause-none g c =
    c.loop-answer.invariant.empty

pub returns-in-Finished-clause-out : goal.returns-in-Finished-clause-out
returns-in-Finished-clause-out g c =
    none-left-after _ _ _ _ _ _ _ _ _ _ _ _ _ _ _ _ c.loop-answer.invariant (got-none (4 * c.args.context.now.workers) c.args.context.now.chunk_rows c.loop-answer.next_index (g.I.Source.left c.loop-answer.source) (g.I.Source.left c.get_batches.new.self) c.in-Ok.answer c.in-Ok.ensures.gives c.get_batches.new.next_index c.in-Ok.ensures.index c.in-Finished.is).0 c.args.context.now.workers_in.0 _ (got-none (4 * c.args.context.now.workers) c.args.context.now.chunk_rows c.loop-answer.next_index (g.I.Source.left c.loop-answer.source) (g.I.Source.left c.get_batches.new.self) c.in-Ok.answer c.in-Ok.ensures.gives c.get_batches.new.next_index c.in-Ok.ensures.index c.in-Finished.is).1

pub returns-in-Finished-clause-went : goal.returns-in-Finished-clause-went
returns-in-Finished-clause-went g c =
    going-went _ _ _ _ _ _ _ _ _ _ _ _ _ _ _ _ c.loop-answer.invariant (got-none (4 * c.args.context.now.workers) c.args.context.now.chunk_rows c.loop-answer.next_index (g.I.Source.left c.loop-answer.source) (g.I.Source.left c.get_batches.new.self) c.in-Ok.answer c.in-Ok.ensures.gives c.get_batches.new.next_index c.in-Ok.ensures.index c.in-Finished.is).0 c.args.context.now.workers_in.0

pub returns-in-Finished-clause-room : goal.returns-in-Finished-clause-room
returns-in-Finished-clause-room g c =
    going-room _ _ _ _ _ _ _ _ _ _ _ _ _ _ _ _ c.loop-answer.invariant

pub returns-in-Finished-clause-yes : goal.returns-in-Finished-clause-yes
returns-in-Finished-clause-yes g c =
    c.loop-answer.invariant.yes_so_far

pub returns-then-should_stop-clause-same : goal.returns-then-should_stop-clause-same
returns-then-should_stop-clause-same g c =
    c.loop-answer.invariant.same

pub returns-then-should_stop-clause-alike : goal.returns-then-should_stop-clause-alike
returns-then-should_stop-clause-alike g c =
    c.loop-answer.invariant.alike

pub returns-then-should_stop-clause-fit : goal.returns-then-should_stop-clause-fit
returns-then-should_stop-clause-fit g c =
    c.loop-answer.invariant.fit

pub returns-then-should_stop-clause-yes : goal.returns-then-should_stop-clause-yes
returns-then-should_stop-clause-yes g c =
    counts-next 0 1 _ _ _ c.loop-answer.invariant.yes_so_far (rw c.if-should_stop.true at c.should_stop.ensures.yes)

pub returns-then-should_stop-clause-last : goal.returns-then-should_stop-clause-last
returns-then-should_stop-clause-last g c =
    λ e. c.should_stop.ensures.last ∙ c.if-should_stop.true

pub returns-then-should_stop-clause-stopped : goal.returns-then-should_stop-clause-stopped
returns-then-should_stop-clause-stopped g c =
    λ e. going-stopped _ _ _ _ _ _ _ _ _ _ _ _ _ _ _ _ c.loop-answer.invariant _ c.should_stop.ensures.asked

pub noted_round-requires-clause-some : goal.noted_round-requires-clause-some
noted_round-requires-clause-some g c = λ κs lives.
    omega (arith, same-lanes-length g.O.Operator g.K.Sink c.args.lanes.now c.loop-answer.lanes c.loop-answer.invariant.same, c.requires.some)

pub noted_round-requires-clause-lanes : goal.noted_round-requires-clause-lanes
noted_round-requires-clause-lanes g c = λ κs lives.
    omega (arith, same-lanes-length g.O.Operator g.K.Sink c.args.lanes.now c.loop-answer.lanes c.loop-answer.invariant.same, c.requires.lanes)

pub noted_round-requires-clause-few : goal.noted_round-requires-clause-few
noted_round-requires-clause-few g c = λ κs lives.
    let given = got (4 * c.args.context.now.workers) c.args.context.now.chunk_rows c.loop-answer.next_index (g.I.Source.left c.loop-answer.source) (g.I.Source.left c.get_batches.new.self) c.in-Ok.answer c.in-Ok.ensures.gives c.get_batches.new.next_index c.in-Ok.ensures.index c.in-GotMoreData.morsels c.as_slice-morsels.result.now c.as_slice-morsels.ensures.value c.in-GotMoreData.is in
    omega (arith, given-few _ _ _ _ _ _ _ _ _ _ _ _ _ _ _ _ c.loop-answer.invariant _ _ given, c.args.context.now.workers_in.1)

pub noted_round-requires-clause-schema : goal.noted_round-requires-clause-schema
noted_round-requires-clause-schema g c = λ κs lives.
    let given = got (4 * c.args.context.now.workers) c.args.context.now.chunk_rows c.loop-answer.next_index (g.I.Source.left c.loop-answer.source) (g.I.Source.left c.get_batches.new.self) c.in-Ok.answer c.in-Ok.ensures.gives c.get_batches.new.next_index c.in-Ok.ensures.index c.in-GotMoreData.morsels c.as_slice-morsels.result.now c.as_slice-morsels.ensures.value c.in-GotMoreData.is in
    ready-schema _ _ _ _ _ _ _ _ _ _ _ _ _ _ _ _ c.loop-answer.invariant _ _ given

pub noted_round-requires-clause-alike : goal.noted_round-requires-clause-alike
noted_round-requires-clause-alike g c = λ κs lives.
    let given = got (4 * c.args.context.now.workers) c.args.context.now.chunk_rows c.loop-answer.next_index (g.I.Source.left c.loop-answer.source) (g.I.Source.left c.get_batches.new.self) c.in-Ok.answer c.in-Ok.ensures.gives c.get_batches.new.next_index c.in-Ok.ensures.index c.in-GotMoreData.morsels c.as_slice-morsels.result.now c.as_slice-morsels.ensures.value c.in-GotMoreData.is in
    ready-alike _ _ _ _ _ _ _ _ _ _ _ _ _ _ _ _ c.loop-answer.invariant _ _ given

pub noted_round-requires-clause-calm : goal.noted_round-requires-clause-calm
noted_round-requires-clause-calm g c = λ κs lives.
    c.loop-answer.invariant.calm

pub noted_round-requires-clause-empty : goal.noted_round-requires-clause-empty
noted_round-requires-clause-empty g c = λ κs lives.
    c.loop-answer.invariant.empty

pub noted_round-requires-clause-fit : goal.noted_round-requires-clause-fit
noted_round-requires-clause-fit g c = λ κs lives.
    let given = got (4 * c.args.context.now.workers) c.args.context.now.chunk_rows c.loop-answer.next_index (g.I.Source.left c.loop-answer.source) (g.I.Source.left c.get_batches.new.self) c.in-Ok.answer c.in-Ok.ensures.gives c.get_batches.new.next_index c.in-Ok.ensures.index c.in-GotMoreData.morsels c.as_slice-morsels.result.now c.as_slice-morsels.ensures.value c.in-GotMoreData.is in
    ready-fit _ _ _ _ _ _ _ _ _ _ _ _ _ _ _ _ c.loop-answer.invariant _ _ given

pub returns-in-Err-clause-same : goal.returns-in-Err-clause-same
returns-in-Err-clause-same g c =
    let given = got (4 * c.args.context.now.workers) c.args.context.now.chunk_rows c.loop-answer.next_index (g.I.Source.left c.loop-answer.source) (g.I.Source.left c.get_batches.new.self) c.in-Ok.answer c.in-Ok.ensures.gives c.get_batches.new.next_index c.in-Ok.ensures.index c.in-GotMoreData.morsels c.as_slice-morsels.result.now c.as_slice-morsels.ensures.value c.in-GotMoreData.is in
    going-same _ _ _ _ _ _ _ _ _ _ _ _ _ _ _ _ c.loop-answer.invariant _ _ given 0 0 0 _ c.noted_round.ensures.same

pub returns-in-Err-clause-alike : goal.returns-in-Err-clause-alike
returns-in-Err-clause-alike g c =
    let given = got (4 * c.args.context.now.workers) c.args.context.now.chunk_rows c.loop-answer.next_index (g.I.Source.left c.loop-answer.source) (g.I.Source.left c.get_batches.new.self) c.in-Ok.answer c.in-Ok.ensures.gives c.get_batches.new.next_index c.in-Ok.ensures.index c.in-GotMoreData.morsels c.as_slice-morsels.result.now c.as_slice-morsels.ensures.value c.in-GotMoreData.is in
    left-alike _ _ _ _ _ _ _ _ _ _ _ _ _ _ _ _ c.loop-answer.invariant _ _ given _ c.noted_round.ensures.alike

pub returns-in-Err-clause-fit : goal.returns-in-Err-clause-fit
returns-in-Err-clause-fit g c =
    let given = got (4 * c.args.context.now.workers) c.args.context.now.chunk_rows c.loop-answer.next_index (g.I.Source.left c.loop-answer.source) (g.I.Source.left c.get_batches.new.self) c.in-Ok.answer c.in-Ok.ensures.gives c.get_batches.new.next_index c.in-Ok.ensures.index c.in-GotMoreData.morsels c.as_slice-morsels.result.now c.as_slice-morsels.ensures.value c.in-GotMoreData.is in
    left-fit _ _ _ _ _ _ _ _ _ _ _ _ _ _ _ _ c.loop-answer.invariant _ _ given _ c.noted_round.ensures.fit

pub returns-in-Err-clause-told : goal.returns-in-Err-clause-told
returns-in-Err-clause-told g c =
    c.in-Err.ensures.told

pub returns-in-Err-clause-over : goal.returns-in-Err-clause-over
returns-in-Err-clause-over g c =
    let given = got (4 * c.args.context.now.workers) c.args.context.now.chunk_rows c.loop-answer.next_index (g.I.Source.left c.loop-answer.source) (g.I.Source.left c.get_batches.new.self) c.in-Ok.answer c.in-Ok.ensures.gives c.get_batches.new.next_index c.in-Ok.ensures.index c.in-GotMoreData.morsels c.as_slice-morsels.result.now c.as_slice-morsels.ensures.value c.in-GotMoreData.is in
    going-over _ _ _ _ _ _ _ _ _ _ _ _ _ _ _ _ c.loop-answer.invariant _ _ given c.noted_round.new.lanes c.in-Err.refusal c.in-Err.ensures.over

pub returns-in-Err-clause-yes : goal.returns-in-Err-clause-yes
returns-in-Err-clause-yes g c =
    counts-next 0 0 _ _ _ c.loop-answer.invariant.yes_so_far (rw c.if-should_stop.false at c.should_stop.ensures.yes)

pub loop-answer-smaller : goal.loop-answer-smaller
loop-answer-smaller g c =
    let given = got (4 * c.args.context.now.workers) c.args.context.now.chunk_rows c.loop-answer.next_index (g.I.Source.left c.loop-answer.source) (g.I.Source.left c.get_batches.new.self) c.in-Ok.answer c.in-Ok.ensures.gives c.get_batches.new.next_index c.in-Ok.ensures.index c.in-GotMoreData.morsels c.as_slice-morsels.result.now c.as_slice-morsels.ensures.value c.in-GotMoreData.is in
    given-smaller _ _ _ _ _ _ _ _ _ _ _ _ _ _ _ _ c.loop-answer.invariant _ _ given c.args.context.now.rows_in

pub loop-answer-preserved : goal.loop-answer-preserved
loop-answer-preserved g c =
    let given = got (4 * c.args.context.now.workers) c.args.context.now.chunk_rows c.loop-answer.next_index (g.I.Source.left c.loop-answer.source) (g.I.Source.left c.get_batches.new.self) c.in-Ok.answer c.in-Ok.ensures.gives c.get_batches.new.next_index c.in-Ok.ensures.index c.in-GotMoreData.morsels c.as_slice-morsels.result.now c.as_slice-morsels.ensures.value c.in-GotMoreData.is in
    let e = c.in_default-noted_round.ensures in
    going-next _ _ _ _ _ _ _ _ _ _ _ _ _ _ _ _ c.loop-answer.invariant _ _ given c.get_batches.new.next_index (g.C.StopCheck.asked c.should_stop.new.self) (g.C.StopCheck.yes c.should_stop.new.self) c.noted_round.new.lanes c.noted_round.ensures.same (index-got (4 * c.args.context.now.workers) c.args.context.now.chunk_rows c.loop-answer.next_index (g.I.Source.left c.loop-answer.source) (g.I.Source.left c.get_batches.new.self) c.in-Ok.answer c.in-Ok.ensures.gives c.get_batches.new.next_index c.in-Ok.ensures.index c.in-GotMoreData.morsels c.as_slice-morsels.result.now c.as_slice-morsels.ensures.value c.in-GotMoreData.is) c.should_stop.ensures.asked (rw c.if-should_stop.false at c.should_stop.ensures.yes) c.args.context.now.rows_in c.noted_round.ensures.alike e.calm c.noted_round.ensures.fit e.within e.went c.noted_round.new.notes.items e.dealt e.noted e.none

pub returns-in_default-clause-over : goal.returns-in_default-clause-over
returns-in_default-clause-over g c =
    going-memory _ _ _ _ _ _ _ _ _ _ _ _ _ _ _ _ c.loop-answer.invariant
