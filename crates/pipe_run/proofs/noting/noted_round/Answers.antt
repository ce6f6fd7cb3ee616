use Rattle.std.proofs.Common.{arith, map}
use Rattle.pipe_run.specs.declared.stage.LaneFault.TheVariants.{Memory}
use Rattle.pipe_run.specs.Claimed.{schema_in, chunks_lot}
use Rattle.pipe_run.specs.Dealt.{rows_of_all}
use Rattle.pipe_run.proofs.RoundSteps.{tells-none, same-lanes-length}
use Rattle.pipe_run.specs.Notes.{entries_in}
use Rattle.pipe_run.proofs.Kept.{kept_same, kept_alike, kept_fit, kept_went, kept_calm, within_kept, memory_behind, dealt_noted, dealt_long}
use Rattle.pipe_run.proofs.noting.noted_round.Goals as goal

pub round-requires-clause-some : goal.round-requires-clause-some
round-requires-clause-some g c = λ κs within. c.requires.some

pub round-requires-clause-lanes : goal.round-requires-clause-lanes
round-requires-clause-lanes g c = λ κs within. c.requires.lanes

pub round-requires-clause-few : goal.round-requires-clause-few
round-requires-clause-few g c = λ κs within. c.requires.few

pub round-requires-clause-schema : goal.round-requires-clause-schema
round-requires-clause-schema g c = λ κs within. c.requires.schema

pub round-requires-clause-alike : goal.round-requires-clause-alike
round-requires-clause-alike g c = λ κs within. c.requires.alike

pub round-requires-clause-calm : goal.round-requires-clause-calm
round-requires-clause-calm g c = λ κs within. c.requires.calm

pub round-requires-clause-fit : goal.round-requires-clause-fit
round-requires-clause-fit g c = λ κs within. c.requires.fit

pub returns-in-Err-clause-same : goal.returns-in-Err-clause-same
returns-in-Err-clause-same g c = c.round.ensures.same

pub returns-in-Err-clause-alike : goal.returns-in-Err-clause-alike
returns-in-Err-clause-alike g c = c.round.ensures.alike

pub returns-in-Err-clause-fit : goal.returns-in-Err-clause-fit
returns-in-Err-clause-fit g c = c.round.ensures.fit

pub returns-in-Err-clause-told : goal.returns-in-Err-clause-told
returns-in-Err-clause-told g c = c.in-Err.ensures.told

pub returns-in-Err-clause-over : goal.returns-in-Err-clause-over
returns-in-Err-clause-over g c = c.in-Err.ensures.over

pub drain_notes-requires : goal.drain_notes-requires
drain_notes-requires g c = record { few = (let same = same-lanes-length g.O.Operator g.K.Sink c.args.lanes.now c.round.new.lanes c.round.ensures.same in omega (arith, same, c.requires.lanes)) }

pub returns-in_default-drain_notes-clause-same : goal.returns-in_default-drain_notes-clause-same
returns-in_default-drain_notes-clause-same g c = kept_same g.O.Operator g.K.Sink c.args.shared.now c.args.lanes.now c.round.new.lanes c.drain_notes.new.lanes c.drain_notes.ensures.kept c.round.ensures.same

pub returns-in_default-drain_notes-clause-alike : goal.returns-in_default-drain_notes-clause-alike
returns-in_default-drain_notes-clause-alike g c = kept_alike g.O.Operator g.K.Sink c.args.shared.now (schema_in c.args.morsels.now) c.round.new.lanes c.drain_notes.new.lanes c.drain_notes.ensures.kept c.round.ensures.alike

pub returns-in_default-drain_notes-clause-fit : goal.returns-in_default-drain_notes-clause-fit
returns-in_default-drain_notes-clause-fit g c = kept_fit g.O.Operator g.K.Sink c.args.shared.now c.args.context.now.row_limit (schema_in c.args.morsels.now) c.round.new.lanes c.drain_notes.new.lanes c.drain_notes.ensures.kept c.round.ensures.fit

pub returns-in_default-drain_notes-clause-told : goal.returns-in_default-drain_notes-clause-told
returns-in_default-drain_notes-clause-told g c = tells-none c.drain_notes.new.lanes Memory (kept_calm c.round.new.lanes c.drain_notes.new.lanes c.drain_notes.ensures.kept c.in_default.ensures.calm)

pub returns-in_default-drain_notes-clause-over : goal.returns-in_default-drain_notes-clause-over
returns-in_default-drain_notes-clause-over g c = memory_behind g.O.Operator g.K.Sink c.args.shared.now c.args.context.now.row_limit (schema_in c.args.morsels.now) (rows_of_all c.args.morsels.now) c.args.lanes.now c.drain_notes.new.lanes (kept_went g.O.Operator g.K.Sink c.args.shared.now (schema_in c.args.morsels.now) (rows_of_all c.args.morsels.now) c.args.lanes.now c.round.new.lanes c.drain_notes.new.lanes c.drain_notes.ensures.kept c.in_default.ensures.went)

pub returns-clause-same : goal.returns-clause-same
returns-clause-same g c = kept_same g.O.Operator g.K.Sink c.args.shared.now c.args.lanes.now c.round.new.lanes c.drain_notes.new.lanes c.drain_notes.ensures.kept c.round.ensures.same

pub returns-clause-alike : goal.returns-clause-alike
returns-clause-alike g c = kept_alike g.O.Operator g.K.Sink c.args.shared.now (schema_in c.args.morsels.now) c.round.new.lanes c.drain_notes.new.lanes c.drain_notes.ensures.kept c.round.ensures.alike

pub returns-clause-fit : goal.returns-clause-fit
returns-clause-fit g c = kept_fit g.O.Operator g.K.Sink c.args.shared.now c.args.context.now.row_limit (schema_in c.args.morsels.now) c.round.new.lanes c.drain_notes.new.lanes c.drain_notes.ensures.kept c.round.ensures.fit

pub returns-clause-calm : goal.returns-clause-calm
returns-clause-calm g c = kept_calm c.round.new.lanes c.drain_notes.new.lanes c.drain_notes.ensures.kept c.in_default.ensures.calm

pub returns-clause-went : goal.returns-clause-went
returns-clause-went g c = kept_went g.O.Operator g.K.Sink c.args.shared.now (schema_in c.args.morsels.now) (rows_of_all c.args.morsels.now) c.args.lanes.now c.round.new.lanes c.drain_notes.new.lanes c.drain_notes.ensures.kept c.in_default.ensures.went

pub returns-clause-within : goal.returns-clause-within
returns-clause-within g c = within_kept c.args.context.now.row_limit c.round.new.lanes c.drain_notes.new.lanes c.drain_notes.ensures.kept c.in_default.ensures.within

pub returns-clause-dealt : goal.returns-clause-dealt
returns-clause-dealt g c =
    record {
      mid = c.round.new.lanes;
      dealt = c.in_default.ensures.dealt;
      kept = c.drain_notes.ensures.kept;
      noted = c.in-Ok.ensures.notes;
    }

pub returns-clause-noted : goal.returns-clause-noted
returns-clause-noted g c =
    record {
      lanes = map entries_in c.round.new.lanes;
      whole = c.in-Ok.ensures.notes;
      few = (let long = dealt_long g.O.Operator g.K.Sink c.args.shared.now c.args.context.now.row_limit (chunks_lot c.args.morsels.now) c.args.lanes.now c.round.new.lanes c.in_default.ensures.dealt in omega (arith, long));
      noted = dealt_noted g.O.Operator g.K.Sink c.args.shared.now c.args.context.now.row_limit (chunks_lot c.args.morsels.now) c.args.lanes.now c.round.new.lanes c.in_default.ensures.dealt c.requires.empty;
    }

pub returns-clause-none : goal.returns-clause-none
returns-clause-none g c = c.in-Ok.ensures.none
