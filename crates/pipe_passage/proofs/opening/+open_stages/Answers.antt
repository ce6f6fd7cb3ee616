use Rattle.std.proofs.lemmas.List.{nil_from_length}
use Rattle.pipe_passage.proofs.Probes.{stages-none, rest-none, stages-more}
use Rattle.pipe_passage.proofs.Results.{on-ok}
use Rattle.pipe_passage.proofs.opening.+open_stages.Goals as goal

pub returns-in_default-clause-opened : goal.returns-in_default-clause-opened
returns-in_default-clause-opened g t c = stages-none c.args.thread_no c.args.shared.now c.args.free.now c.args.stages.now _ (nil_from_length c.args.stages.now c.in_default.ensures.cases) c.requires.planned c.requires.rest

pub returns-in_default-clause-rest : goal.returns-in_default-clause-rest
returns-in_default-clause-rest g t c = rest-none c.args.thread_no _ c.args.shared.now c.args.free.now c.args.stages.now (nil_from_length c.args.stages.now c.in_default.ensures.cases) c.requires.planned c.requires.rest

pub returns-clause-opened : goal.returns-clause-opened
returns-clause-opened g t c =
    rw (c.in-Some.ensures.cases.0, c.in-Some-split_first.ensures.cases.0, c.in-Some-split_first_mut.ensures.cases.0)
    (on-ok c.open_stages.result (λ all. stages-more _ _ _ _ _ _ _ _ _ _ _ _ c.in_ok-push.ensures.items c.in_ok-open_stage.ensures.opened all) c.open_stages.ensures.opened)

pub returns-clause-rest : goal.returns-clause-rest
returns-clause-rest g t c =
    rw c.in-Some-split_first.ensures.cases.0 (on-ok c.open_stages.result (λ rest. (c.in_ok-open_stage.ensures.rest, rest)) c.open_stages.ensures.rest)
