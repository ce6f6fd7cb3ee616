use Rattle.std.proofs.Common.{rules, refl, [], ◌∙◌, arith}
use Rattle.std.proofs.lemmas.Result.{IfOk-weaker, IfErr-weaker}
use Rattle.pipe_run.proofs.Work.{one-refl, one-next, work-refl, work-trans, work-cons, works-behind, chain-behind, acts-length, head-serves, work-serve}
use Rattle.pipe_run.proofs.Limits.{going-start, going-more, going-last, going-none, going-end, above-more, above-last, above-memory, over-first, over-here}
use Rattle.pipe_run.proofs.Stages.{counts-length}
use Rattle.pipe_run.proofs.Debts.{debt-less}
use Rattle.pipe_run.proofs.pushing.+push.Goals as goal

pub pump-loop-answer-init : goal.pump-loop-answer-init
pump-loop-answer-init g t c =
    let op = c.args.operator.now in
    let s = c.args.own.now in
    let frame = c.args.chunk.frame in
    let laws = g.met.O.Operator g.world.𝓛 g.world.𝓜 g.world.𝓡 ((λ s x. x), (λ x. x), (λ x. x), λ x. x) in
    let idle = c.requires.idle.0 in
    record {
      one = one-refl _ _;
      ready = laws.starts op s frame idle;
      others = work-refl _ _;
      idle = c.requires.idle.1;
      nodes = refl;
      setting = refl;
      schema = refl;
      gives = refl;
      within = c.requires.within;
      room = c.requires.held;
      going = going-start _ _ _ _ _ _ _ _ (acts-length g.O.Operator _ _ _ c.requires.serves.1) (counts-length g.O.Operator _ c.args.rest.now c.args.target.now c.args.others.now c.requires.serves.1) (laws.owes op s frame c.requires.chain.0 idle) (laws.asks op s frame c.requires.chain.0 idle);
    }

pub pump-execute-requires-clause-suits : goal.pump-execute-requires-clause-suits
pump-execute-requires-clause-suits g t c = (head-serves g.O.Operator _ _ _ _ _ c.loop-answer.invariant.one c.requires.serves).suits

pub pump-execute-requires-clause-seated : goal.pump-execute-requires-clause-seated
pump-execute-requires-clause-seated g t c = (head-serves g.O.Operator _ _ _ _ _ c.loop-answer.invariant.one c.requires.serves).seated

pub pump-returns-in_default-clause-work : goal.pump-returns-in_default-clause-work
pump-returns-in_default-clause-work g t c =
    let known = c.loop-answer.invariant in
    let e = c.execute.ensures in
    work-cons _ _ _ _ _ (one-next _ _ _ _ known.one e.takes e.output e.work e.suits e.seated e.closed) known.others

pub pump-returns-in-NeedsNewData-clause-work : goal.pump-returns-in-NeedsNewData-clause-work
pump-returns-in-NeedsNewData-clause-work g t c =
    let known = c.loop-answer.invariant in
    let e = c.execute.ensures in
    work-cons _ _ _ _ _ (one-next _ _ _ _ known.one e.takes e.output e.work e.suits e.seated e.closed) known.others

pub pump-returns-in_default-clause-over : goal.pump-returns-in_default-clause-over
pump-returns-in_default-clause-over g t c =
    above-memory _ _ _ _ _ _ _ _ _ _ _ _ _ _ _ (record { rows = []; keys = [] }) c.loop-answer.invariant.going c.in_default.ensures.memory

pub pump-returns-in-NeedsNewData-clause-went : goal.pump-returns-in-NeedsNewData-clause-went
pump-returns-in-NeedsNewData-clause-went g t c =
    let known = c.loop-answer.invariant in
    let gives = rw (c.in-NeedsNewData.is, known.one.work) at c.in-Ok.ensures.gives in
    going-end _ _ _ _ _ _ _ _ _ _ _ (going-none _ _ _ _ _ _ _ _ _ _ _ _ _ _ known.going gives)

pub pump-returns-in_err-push-in-HaveMoreOutPut-clause-work : goal.pump-returns-in_err-push-in-HaveMoreOutPut-clause-work
pump-returns-in_err-push-in-HaveMoreOutPut-clause-work g t c =
    let known = c.loop-answer.invariant in
    let e = c.execute.ensures in
    work-cons _ _ _ _ _ (one-next _ _ _ _ known.one e.takes e.output e.work e.suits e.seated e.closed) (work-trans _ _ _ _ known.others c.push.ensures.work)

pub pump-returns-in-Finished-clause-work : goal.pump-returns-in-Finished-clause-work
pump-returns-in-Finished-clause-work g t c =
    let known = c.loop-answer.invariant in
    let e = c.execute.ensures in
    work-cons _ _ _ _ _ (one-next _ _ _ _ known.one e.takes e.output e.work e.suits e.seated e.closed) (work-trans _ _ _ _ known.others c.push-in-Finished.ensures.work)

pub pump-push-requires-clause-serves : goal.pump-push-requires-clause-serves
pump-push-requires-clause-serves g t c κs within =
    work-serve g.O.Operator _ _ _ c.loop-answer.invariant.others c.requires.serves.1

pub pump-push-requires-clause-chain : goal.pump-push-requires-clause-chain
pump-push-requires-clause-chain g t c κs within =
    let known = c.loop-answer.invariant in
    let under = rw c.in-HaveMoreOutPut.is at c.in-Ok.ensures.piece in
    chain-behind g.O.Operator _ _ _ _ c.args.chunk.frame.schema _ _ _ known.one known.others under.0 known.schema c.requires.chain.1

pub pump-push-requires-in-Finished-clause-serves : goal.pump-push-requires-in-Finished-clause-serves
pump-push-requires-in-Finished-clause-serves g t c κs within =
    work-serve g.O.Operator _ _ _ c.loop-answer.invariant.others c.requires.serves.1

pub pump-push-requires-in-Finished-clause-chain : goal.pump-push-requires-in-Finished-clause-chain
pump-push-requires-in-Finished-clause-chain g t c κs within =
    let known = c.loop-answer.invariant in
    let under = rw c.in-Finished.is at c.in-Ok.ensures.piece in
    chain-behind g.O.Operator _ _ _ _ c.args.chunk.frame.schema _ _ _ known.one known.others under.0 known.schema c.requires.chain.1

pub pump-loop-answer-smaller : goal.pump-loop-answer-smaller
pump-loop-answer-smaller g t c =
    let gives = rw (c.in-HaveMoreOutPut.is, c.loop-answer.invariant.one.work) at c.in-Ok.ensures.gives in
    debt-less _ _ _ _ _ _ gives

pub pump-loop-answer-preserved : goal.pump-loop-answer-preserved
pump-loop-answer-preserved g t c =
    let known = c.loop-answer.invariant in
    let e = c.execute.ensures in
    let p = c.in_ok-push-in-HaveMoreOutPut.ensures in
    let gives = rw (c.in-HaveMoreOutPut.is, known.one.work) at c.in-Ok.ensures.gives in
    let under = rw c.in-HaveMoreOutPut.is at c.in-Ok.ensures.piece in
    let same = works-behind g.O.Operator _ _ _ _ c.args.chunk.frame.schema _ c.args.others.now known.one known.others under.0 in
    record {
      one = one-next _ _ _ _ known.one e.takes e.output e.work e.suits e.seated e.closed;
      ready = c.in-Ok.ensures.more (rw c.in-HaveMoreOutPut.is refl);
      others = work-trans _ _ _ _ known.others p.work;
      idle = p.idle;
      nodes = p.nodes ∙ known.nodes;
      setting = p.setting ∙ known.setting;
      schema = p.schema ∙ known.schema;
      gives = p.gives ∙ known.gives;
      within = p.within;
      room = p.room;
      going = going-more _ _ _ _ _ _ _ _ _ _ _ _ _ _ known.going _ _ _ _ gives (rw same at p.went);
    }

pub pump-returns-in_err-push-in-HaveMoreOutPut-clause-over : goal.pump-returns-in_err-push-in-HaveMoreOutPut-clause-over
pump-returns-in_err-push-in-HaveMoreOutPut-clause-over g t c =
    let known = c.loop-answer.invariant in
    let gives = rw (c.in-HaveMoreOutPut.is, known.one.work) at c.in-Ok.ensures.gives in
    let under = rw c.in-HaveMoreOutPut.is at c.in-Ok.ensures.piece in
    let same = works-behind g.O.Operator _ _ _ _ c.args.chunk.frame.schema _ c.args.others.now known.one known.others under.0 in
    let over = rw (same, known.nodes) at c.in_err-push-in-HaveMoreOutPut.ensures.over in
    let h = above-more _ _ _ _ _ _ _ _ _ _ _ _ _ _ _ _ known.going _ _ _ gives over in search (rules, h)

pub pump-returns-in-Finished-clause-went : goal.pump-returns-in-Finished-clause-went
pump-returns-in-Finished-clause-went g t c =
    let known = c.loop-answer.invariant in
    let gives = rw (c.in-Finished.is, known.one.work) at c.in-Ok.ensures.gives in
    let under = rw c.in-Finished.is at c.in-Ok.ensures.piece in
    let same = works-behind g.O.Operator _ _ _ _ c.args.chunk.frame.schema _ c.args.others.now known.one known.others under.0 in
    IfOk-weaker c.push-in-Finished.result _ _
    (λ _ h. going-end _ _ _ _ _ _ _ _ _ _ _ (going-last _ _ _ _ _ _ _ _ _ _ _ _ _ _ known.going _ _ _ _ gives (rw same at h)))
    c.push-in-Finished.ensures.went

pub pump-returns-in-Finished-clause-over : goal.pump-returns-in-Finished-clause-over
pump-returns-in-Finished-clause-over g t c =
    let known = c.loop-answer.invariant in
    let gives = rw (c.in-Finished.is, known.one.work) at c.in-Ok.ensures.gives in
    let under = rw c.in-Finished.is at c.in-Ok.ensures.piece in
    let same = works-behind g.O.Operator _ _ _ _ c.args.chunk.frame.schema _ c.args.others.now known.one known.others under.0 in
    IfErr-weaker c.push-in-Finished.result _ _
    (λ r h. above-last _ _ _ _ _ _ _ _ _ _ _ _ _ _ _ _ known.going _ _ r gives (rw (same, known.nodes) at h))
    c.push-in-Finished.ensures.over

pub push-returns-then-not-count-clause-over : goal.push-returns-then-not-count-clause-over
push-returns-then-not-count-clause-over g t c =
    let serves = rw (c.in-Some.ensures.cases.0, c.in-Some-split_first.ensures.cases.0) at c.requires.serves in
    rw (c.in-Some.ensures.cases.0, c.in-Some-split_first.ensures.cases.0) (over-here _ _ _ _ _ _ _ _ _ (omega (arith, acts-length g.O.Operator _ (g.O.Operator.output c.in-Some.stage.now.operator c.args.chunk.frame.schema) _ serves.1)) (rw c.height.ensures at (c.if-not-count.ensures.over refl)))

pub push-returns-then-not-count-clause-work : goal.push-returns-then-not-count-clause-work
push-returns-then-not-count-clause-work g t c = rw c.in-Some.ensures.cases.0 (work-refl g.O.Operator _)

pub push-returns-clause-over : goal.push-returns-clause-over
push-returns-clause-over g t c =
    rw (c.in-Some.ensures.cases.0, c.in-Some-split_first.ensures.cases.0) (IfErr-weaker c.pump.result _ _ (λ r h. over-first _ _ _ _ _ _ _ _ _ r h) c.pump.ensures.over)
