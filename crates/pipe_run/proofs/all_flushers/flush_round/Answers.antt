use Rattle.std.proofs.Common.{arith, sym, ◌∙◌}
use Rattle.std.proofs.lemmas.Result.{IfErr-weaker}
use Rattle.pipe_run.specs.declared.stage.LaneFault.TheVariants.{Memory}
use Rattle.pipe_run.specs.Claimed.{parts_lot}
use Rattle.pipe_run.specs.Flushes.{flushed_in, rows_of_parts}
use Rattle.pipe_run.proofs.FlushSteps.{flush-serves}
use Rattle.pipe_run.proofs.Dealing.{parts-are}
use Rattle.pipe_run.proofs.RoundSteps.{round-same, round-alike, round-dealt, round-went, round-over, round-sum-over, round-none, calm-all, tells-none, tells-some, same-lanes-refl, same-lanes-length, fits-within, alike-nodes, always, refused, all-parts-went, all-parts-over}
use Rattle.pipe_run.proofs.all_flushers.flush_round.Goals as goal

pub returns-in_default-clause-same : goal.returns-in_default-clause-same
returns-in_default-clause-same g c = rw c.in_default.ensures.memory.1 (same-lanes-refl g.O.Operator g.K.Sink c.args.lanes.now)

pub returns-in_default-clause-alike : goal.returns-in_default-clause-alike
returns-in_default-clause-alike g c = rw c.in_default.ensures.memory.1 c.requires.alike

pub returns-in_default-clause-told : goal.returns-in_default-clause-told
returns-in_default-clause-told g c = tells-none c.deal_parts.new.lanes Memory (rw c.in_default.ensures.memory.1 c.requires.calm)

pub returns-in_default-clause-over : goal.returns-in_default-clause-over
returns-in_default-clause-over g c = rw c.in_default.ensures.memory.1 (round-none g.O.Operator c.args.others.now c.args.context.now.row_limit (flushed_in g.O.Operator c.args.lanes.now) (rows_of_parts g.O.FlushParts.parts g.O.FlushParts.part_of c.args.own.now) c.args.lanes.now c.requires.some c.requires.alike (λ i d less. (c.requires.fit i d less).fit.serve))

pub returns-in-Some-clause-same : goal.returns-in-Some-clause-same
returns-in-Some-clause-same g c = round-same g.O.Operator g.K.Sink c.args.others.now c.args.context.now.row_limit (parts_lot g.O.FlushParts.parts g.O.FlushParts.part_of (flushed_in g.O.Operator c.args.lanes.now) c.args.own.now) c.args.lanes.now c.deal_parts.new.lanes (parts-are g.O.FlushParts.parts g.O.FlushParts.part_of (flushed_in g.O.Operator c.args.lanes.now) c.args.own.now) c.in-Ok.ensures.drawn

pub returns-in-Some-clause-alike : goal.returns-in-Some-clause-alike
returns-in-Some-clause-alike g c = round-alike g.O.Operator g.K.Sink c.args.others.now c.args.context.now.row_limit (parts_lot g.O.FlushParts.parts g.O.FlushParts.part_of (flushed_in g.O.Operator c.args.lanes.now) c.args.own.now) c.args.lanes.now c.deal_parts.new.lanes (parts-are g.O.FlushParts.parts g.O.FlushParts.part_of (flushed_in g.O.Operator c.args.lanes.now) c.args.own.now) c.in-Ok.ensures.drawn c.requires.alike (flush-serves g.O.Operator g.K.Sink c.args.own.now c.args.others.now c.args.context.now.row_limit (flushed_in g.O.Operator c.args.lanes.now) c.args.lanes.now c.requires.fit) c.requires.some

pub returns-in-None-clause-same : goal.returns-in-None-clause-same
returns-in-None-clause-same g c = round-same g.O.Operator g.K.Sink c.args.others.now c.args.context.now.row_limit (parts_lot g.O.FlushParts.parts g.O.FlushParts.part_of (flushed_in g.O.Operator c.args.lanes.now) c.args.own.now) c.args.lanes.now c.deal_parts.new.lanes (parts-are g.O.FlushParts.parts g.O.FlushParts.part_of (flushed_in g.O.Operator c.args.lanes.now) c.args.own.now) c.in-Ok.ensures.drawn

pub returns-in-None-clause-alike : goal.returns-in-None-clause-alike
returns-in-None-clause-alike g c = round-alike g.O.Operator g.K.Sink c.args.others.now c.args.context.now.row_limit (parts_lot g.O.FlushParts.parts g.O.FlushParts.part_of (flushed_in g.O.Operator c.args.lanes.now) c.args.own.now) c.args.lanes.now c.deal_parts.new.lanes (parts-are g.O.FlushParts.parts g.O.FlushParts.part_of (flushed_in g.O.Operator c.args.lanes.now) c.args.own.now) c.in-Ok.ensures.drawn c.requires.alike (flush-serves g.O.Operator g.K.Sink c.args.own.now c.args.others.now c.args.context.now.row_limit (flushed_in g.O.Operator c.args.lanes.now) c.args.lanes.now c.requires.fit) c.requires.some

pub returns-in-Some-clause-told : goal.returns-in-Some-clause-told
returns-in-Some-clause-told g c = tells-some c.deal_parts.new.lanes c.in-Some.refusal (sym c.first_refusal.ensures ∙ c.in-Some.is)

pub returns-in-Some-clause-over : goal.returns-in-Some-clause-over
returns-in-Some-clause-over g c = all-parts-over g.O.FlushParts.parts g.O.FlushParts.part_of g.O.Operator c.args.others.now c.args.context.now.row_limit (flushed_in g.O.Operator c.args.lanes.now) c.args.own.now c.args.lanes.now c.deal_parts.new.lanes _ (round-over g.O.Operator g.K.Sink c.args.others.now c.args.context.now.row_limit (parts_lot g.O.FlushParts.parts g.O.FlushParts.part_of (flushed_in g.O.Operator c.args.lanes.now) c.args.own.now) c.args.lanes.now c.deal_parts.new.lanes (parts-are g.O.FlushParts.parts g.O.FlushParts.part_of (flushed_in g.O.Operator c.args.lanes.now) c.args.own.now) c.in-Ok.ensures.drawn c.requires.alike (flush-serves g.O.Operator g.K.Sink c.args.own.now c.args.others.now c.args.context.now.row_limit (flushed_in g.O.Operator c.args.lanes.now) c.args.lanes.now c.requires.fit) c.requires.some _ c.requires.calm (sym c.first_refusal.ensures ∙ c.in-Some.is))

pub returns-in-None-clause-calm : goal.returns-in-None-clause-calm
returns-in-None-clause-calm g c = always c.check_counts.result (calm-all c.deal_parts.new.lanes (sym c.first_refusal.ensures ∙ c.in-None.is))

pub returns-in-None-clause-dealt : goal.returns-in-None-clause-dealt
returns-in-None-clause-dealt g c = always c.check_counts.result (round-dealt g.O.Operator g.K.Sink c.args.others.now c.args.context.now.row_limit (parts_lot g.O.FlushParts.parts g.O.FlushParts.part_of (flushed_in g.O.Operator c.args.lanes.now) c.args.own.now) c.args.lanes.now c.deal_parts.new.lanes (parts-are g.O.FlushParts.parts g.O.FlushParts.part_of (flushed_in g.O.Operator c.args.lanes.now) c.args.own.now) c.in-Ok.ensures.drawn (calm-all c.deal_parts.new.lanes (sym c.first_refusal.ensures ∙ c.in-None.is)))

pub returns-in-None-clause-went : goal.returns-in-None-clause-went
returns-in-None-clause-went g c = always c.check_counts.result (all-parts-went g.O.FlushParts.parts g.O.FlushParts.part_of g.O.Operator g.K.Sink c.args.others.now (flushed_in g.O.Operator c.args.lanes.now) c.args.own.now c.args.lanes.now c.deal_parts.new.lanes (round-went g.O.Operator g.K.Sink c.args.others.now c.args.context.now.row_limit (parts_lot g.O.FlushParts.parts g.O.FlushParts.part_of (flushed_in g.O.Operator c.args.lanes.now) c.args.own.now) c.args.lanes.now c.deal_parts.new.lanes (parts-are g.O.FlushParts.parts g.O.FlushParts.part_of (flushed_in g.O.Operator c.args.lanes.now) c.args.own.now) c.in-Ok.ensures.drawn c.requires.alike (flush-serves g.O.Operator g.K.Sink c.args.own.now c.args.others.now c.args.context.now.row_limit (flushed_in g.O.Operator c.args.lanes.now) c.args.lanes.now c.requires.fit) c.requires.some (calm-all c.deal_parts.new.lanes (sym c.first_refusal.ensures ∙ c.in-None.is))))

pub returns-in-None-clause-told : goal.returns-in-None-clause-told
returns-in-None-clause-told g c = refused c.check_counts.result _ (λ r. tells-none _ r (calm-all c.deal_parts.new.lanes (sym c.first_refusal.ensures ∙ c.in-None.is)))

pub returns-in-None-clause-over : goal.returns-in-None-clause-over
returns-in-None-clause-over g c = IfErr-weaker c.check_counts.result _ _ (λ r h. all-parts-over g.O.FlushParts.parts g.O.FlushParts.part_of g.O.Operator c.args.others.now c.args.context.now.row_limit (flushed_in g.O.Operator c.args.lanes.now) c.args.own.now c.args.lanes.now c.deal_parts.new.lanes r (round-sum-over g.O.Operator g.K.Sink c.args.others.now c.args.context.now.row_limit (parts_lot g.O.FlushParts.parts g.O.FlushParts.part_of (flushed_in g.O.Operator c.args.lanes.now) c.args.own.now) c.args.lanes.now c.deal_parts.new.lanes (parts-are g.O.FlushParts.parts g.O.FlushParts.part_of (flushed_in g.O.Operator c.args.lanes.now) c.args.own.now) c.in-Ok.ensures.drawn c.requires.alike (flush-serves g.O.Operator g.K.Sink c.args.own.now c.args.others.now c.args.context.now.row_limit (flushed_in g.O.Operator c.args.lanes.now) c.args.lanes.now c.requires.fit) c.requires.some r (calm-all c.deal_parts.new.lanes (sym c.first_refusal.ensures ∙ c.in-None.is)) h)) c.check_counts.ensures.over

pub check_counts-requires-clause-some : goal.check_counts-requires-clause-some
check_counts-requires-clause-some g c = (let len = same-lanes-length g.O.Operator g.K.Sink _ _ (round-same g.O.Operator g.K.Sink c.args.others.now c.args.context.now.row_limit (parts_lot g.O.FlushParts.parts g.O.FlushParts.part_of (flushed_in g.O.Operator c.args.lanes.now) c.args.own.now) c.args.lanes.now c.deal_parts.new.lanes (parts-are g.O.FlushParts.parts g.O.FlushParts.part_of (flushed_in g.O.Operator c.args.lanes.now) c.args.own.now) c.in-Ok.ensures.drawn) in omega (arith, len, c.requires.some))

pub check_counts-requires-clause-few : goal.check_counts-requires-clause-few
check_counts-requires-clause-few g c = (let len = same-lanes-length g.O.Operator g.K.Sink _ _ (round-same g.O.Operator g.K.Sink c.args.others.now c.args.context.now.row_limit (parts_lot g.O.FlushParts.parts g.O.FlushParts.part_of (flushed_in g.O.Operator c.args.lanes.now) c.args.own.now) c.args.lanes.now c.deal_parts.new.lanes (parts-are g.O.FlushParts.parts g.O.FlushParts.part_of (flushed_in g.O.Operator c.args.lanes.now) c.args.own.now) c.in-Ok.ensures.drawn) in omega (arith, len, c.requires.lanes))

pub check_counts-requires-clause-nodes : goal.check_counts-requires-clause-nodes
check_counts-requires-clause-nodes g c = alike-nodes g.O.Operator g.K.Sink c.args.others.now c.args.context.now.row_limit (flushed_in g.O.Operator c.args.lanes.now) c.deal_parts.new.lanes (round-alike g.O.Operator g.K.Sink c.args.others.now c.args.context.now.row_limit (parts_lot g.O.FlushParts.parts g.O.FlushParts.part_of (flushed_in g.O.Operator c.args.lanes.now) c.args.own.now) c.args.lanes.now c.deal_parts.new.lanes (parts-are g.O.FlushParts.parts g.O.FlushParts.part_of (flushed_in g.O.Operator c.args.lanes.now) c.args.own.now) c.in-Ok.ensures.drawn c.requires.alike (flush-serves g.O.Operator g.K.Sink c.args.own.now c.args.others.now c.args.context.now.row_limit (flushed_in g.O.Operator c.args.lanes.now) c.args.lanes.now c.requires.fit) c.requires.some)

pub check_counts-requires-clause-within : goal.check_counts-requires-clause-within
check_counts-requires-clause-within g c = fits-within g.O.Operator g.K.Sink c.args.others.now c.args.context.now.row_limit (flushed_in g.O.Operator c.args.lanes.now) c.deal_parts.new.lanes (flush-serves g.O.Operator g.K.Sink c.args.own.now c.args.others.now c.args.context.now.row_limit (flushed_in g.O.Operator c.args.lanes.now) c.deal_parts.new.lanes c.deal_parts.ensures.fit) (calm-all c.deal_parts.new.lanes (sym c.first_refusal.ensures ∙ c.in-None.is))
