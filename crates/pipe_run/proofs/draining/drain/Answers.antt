use Rattle.std.proofs.Common.{[], refl, sym, ◌∙◌, arith, rules, length-append}
use Rattle.std.proofs.lemmas.Result.{IfOk-weaker, IfErr-weaker}
use Rattle.pipe_schema.specs.Rows.{Row}
use Rattle.pipe_chain.proofs.Weighing.{rows-length}
use Rattle.pipe_run.proofs.Work.{work-refl, work-trans, work-serve, works-flushed, chain-flushed, acts-length, flushed-refl, flushed-next}
use Rattle.pipe_run.proofs.Stages.{counts-length}
use Rattle.pipe_run.proofs.Limits.{drained-start, drained-more, drained-last, drained-none, drained-over, drained-memory, last-left}
use Rattle.pipe_run.proofs.draining.drain.Goals as goal

pub loop-answer-init : goal.loop-answer-init
loop-answer-init g c = record {
  flushed = flushed-refl g.O.Operator _ _ c.requires.closed;
  begun = c.requires.begun;
  others = work-refl _ _;
  idle = c.requires.idle;
  nodes = refl;
  setting = refl;
  schema = refl;
  gives = refl;
  within = c.requires.within;
  room = c.requires.held;
  drained = drained-start _ _ _ _ _ (acts-length g.O.Operator _ _ _ c.requires.serves) (counts-length g.O.Operator _ c.args.rest.now c.args.target.now c.args.others.now c.requires.serves);
}

pub returns-in_default-clause-flushed : goal.returns-in_default-clause-flushed
returns-in_default-clause-flushed g c =
    let e = c.flush.ensures in
    flushed-next g.O.Operator _ _ _ _ c.loop-answer.invariant.flushed e.takes e.output e.flushed e.work e.acts e.suits e.seated e.closed

pub returns-in-NeedsNewData-clause-flushed : goal.returns-in-NeedsNewData-clause-flushed
returns-in-NeedsNewData-clause-flushed g c =
    let e = c.flush.ensures in
    flushed-next g.O.Operator _ _ _ _ c.loop-answer.invariant.flushed e.takes e.output e.flushed e.work e.acts e.suits e.seated e.closed

pub returns-in_err-push-in-HaveMoreOutPut-clause-flushed : goal.returns-in_err-push-in-HaveMoreOutPut-clause-flushed
returns-in_err-push-in-HaveMoreOutPut-clause-flushed g c =
    let e = c.flush.ensures in
    flushed-next g.O.Operator _ _ _ _ c.loop-answer.invariant.flushed e.takes e.output e.flushed e.work e.acts e.suits e.seated e.closed

pub returns-in-Finished-clause-flushed : goal.returns-in-Finished-clause-flushed
returns-in-Finished-clause-flushed g c =
    let e = c.flush.ensures in
    flushed-next g.O.Operator _ _ _ _ c.loop-answer.invariant.flushed e.takes e.output e.flushed e.work e.acts e.suits e.seated e.closed

pub returns-in_default-clause-over : goal.returns-in_default-clause-over
returns-in_default-clause-over g c = drained-memory _ _ _ _ _ _ _ _ _ c.loop-answer.invariant.drained _ _

pub returns-in-NeedsNewData-clause-went : goal.returns-in-NeedsNewData-clause-went
returns-in-NeedsNewData-clause-went g c =
    let gives = rw c.in-NeedsNewData.is at c.in-Ok.ensures.gives in
    drained-none _ _ _ _ _ _ _ _ _ c.loop-answer.invariant.drained gives

pub returns-in_err-push-in-HaveMoreOutPut-clause-work : goal.returns-in_err-push-in-HaveMoreOutPut-clause-work
returns-in_err-push-in-HaveMoreOutPut-clause-work g c =
    work-trans _ _ _ _ c.loop-answer.invariant.others c.push.ensures.work

pub returns-in-Finished-clause-work : goal.returns-in-Finished-clause-work
returns-in-Finished-clause-work g c =
    work-trans _ _ _ _ c.loop-answer.invariant.others c.push-in-Finished.ensures.work

pub push-requires-clause-serves : goal.push-requires-clause-serves
push-requires-clause-serves g c κs within =
    work-serve g.O.Operator _ _ _ c.loop-answer.invariant.others c.requires.serves

pub push-requires-clause-chain : goal.push-requires-clause-chain
push-requires-clause-chain g c κs within =
    let known = c.loop-answer.invariant in
    let under = rw c.in-HaveMoreOutPut.is at c.in-Ok.ensures.piece in
    chain-flushed g.O.Operator _ _ _ _ _ _ known.others (under.0 ∙ known.flushed.flushed) known.schema c.requires.chain

pub push-requires-in-Finished-clause-serves : goal.push-requires-in-Finished-clause-serves
push-requires-in-Finished-clause-serves g c κs within =
    work-serve g.O.Operator _ _ _ c.loop-answer.invariant.others c.requires.serves

pub push-requires-in-Finished-clause-chain : goal.push-requires-in-Finished-clause-chain
push-requires-in-Finished-clause-chain g c κs within =
    let known = c.loop-answer.invariant in
    let under = rw c.in-Finished.is at c.in-Ok.ensures.piece in
    chain-flushed g.O.Operator _ _ _ _ _ _ known.others (under.0 ∙ known.flushed.flushed) known.schema c.requires.chain

pub loop-answer-smaller : goal.loop-answer-smaller
loop-answer-smaller g c =
    let gives = rw c.in-HaveMoreOutPut.is at c.in-Ok.ensures.gives in
    omega (arith, rows-length gives.2, length-append {A = Row}, gives.0)

pub loop-answer-preserved : goal.loop-answer-preserved
loop-answer-preserved g c =
    let known = c.loop-answer.invariant in
    let e = c.flush.ensures in
    let p = c.in_ok-push-in-HaveMoreOutPut.ensures in
    let gives = rw c.in-HaveMoreOutPut.is at c.in-Ok.ensures.gives in
    let under = rw c.in-HaveMoreOutPut.is at c.in-Ok.ensures.piece in
    let same = works-flushed g.O.Operator _ _ _ (g.O.Operator.flushed c.args.operator.now) c.args.others.now known.others (under.0 ∙ known.flushed.flushed) in
    record {
      flushed = flushed-next g.O.Operator _ _ _ _ known.flushed e.takes e.output e.flushed e.work e.acts e.suits e.seated e.closed;
      begun = sym c.in-Ok.ensures.more ∙ rw c.in-HaveMoreOutPut.is refl;
      others = work-trans _ _ _ _ known.others p.work;
      idle = p.idle;
      nodes = p.nodes ∙ known.nodes;
      setting = p.setting ∙ known.setting;
      schema = p.schema ∙ known.schema;
      gives = p.gives ∙ known.gives;
      within = p.within;
      room = p.room;
      drained = drained-more _ _ _ _ _ _ _ _ _ known.drained _ _ _ _ _ gives.2 (rw same at p.went);
    }

pub returns-in_err-push-in-HaveMoreOutPut-clause-over : goal.returns-in_err-push-in-HaveMoreOutPut-clause-over
returns-in_err-push-in-HaveMoreOutPut-clause-over g c =
    let known = c.loop-answer.invariant in
    let gives = rw c.in-HaveMoreOutPut.is at c.in-Ok.ensures.gives in
    let under = rw c.in-HaveMoreOutPut.is at c.in-Ok.ensures.piece in
    let same = works-flushed g.O.Operator _ _ _ (g.O.Operator.flushed c.args.operator.now) c.args.others.now known.others (under.0 ∙ known.flushed.flushed) in
    let over = rw (same, known.nodes) at c.in_err-push-in-HaveMoreOutPut.ensures.over in
    let h = drained-over _ _ _ _ _ _ _ _ _ known.drained _ _ _ _ _ _ gives.2 over in search (rules, h)

pub returns-in-Finished-clause-went : goal.returns-in-Finished-clause-went
returns-in-Finished-clause-went g c =
    let known = c.loop-answer.invariant in
    let gives = rw c.in-Finished.is at c.in-Ok.ensures.gives in
    let under = rw c.in-Finished.is at c.in-Ok.ensures.piece in
    let same = works-flushed g.O.Operator _ _ _ (g.O.Operator.flushed c.args.operator.now) c.args.others.now known.others (under.0 ∙ known.flushed.flushed) in
    IfOk-weaker c.push-in-Finished.result _ _ (λ _ h. drained-last _ _ _ _ _ _ _ _ _ known.drained _ _ _ _ gives (rw same at h)) c.push-in-Finished.ensures.went

pub returns-in-Finished-clause-over : goal.returns-in-Finished-clause-over
returns-in-Finished-clause-over g c =
    let known = c.loop-answer.invariant in
    let gives = rw c.in-Finished.is at c.in-Ok.ensures.gives in
    let under = rw c.in-Finished.is at c.in-Ok.ensures.piece in
    let same = works-flushed g.O.Operator _ _ _ (g.O.Operator.flushed c.args.operator.now) c.args.others.now known.others (under.0 ∙ known.flushed.flushed) in
    IfErr-weaker c.push-in-Finished.result _ _ (λ r h. drained-over _ _ _ _ _ _ _ _ _ known.drained _ _ _ _ [] r (last-left gives) (rw (same, known.nodes) at h)) c.push-in-Finished.ensures.over
