use Rattle.std.proofs.Common.{refl, ◌∙◌}
use Rattle.pipe_optimize.proofs.Runs.{kept-within, grown-within, apart-grown, apart-within, apart-lists}
use Rattle.pipe_optimize.proofs.name_lists.push_run.Goals as goal

pub returns-in_err-push-clause-within : goal.returns-in_err-push-clause-within
returns-in_err-push-clause-within c =
    kept-within c.args.runs.now.items c.push.new.self.items c.args.places.now.items c.args.places.now.items c.in_err-push.ensures.items refl c.requires

pub returns-in_err-push-2-clause-within : goal.returns-in_err-push-2-clause-within
returns-in_err-push-2-clause-within c =
    grown-within c.args.runs.now.items c.push.new.self.items c.args.places.now.items c.push-2.new.self.items (apart-grown c.args.runs.now.items c.push.new.self.items c.args.names c.in_ok-push.ensures.items) c.in_err-push-2.ensures.items c.requires

pub returns-clause-within : goal.returns-clause-within
returns-clause-within c =
    apart-within c.args.runs.now.items c.push.new.self.items c.args.places.now.items c.push-2.new.self.items c.args.names c.len-run.result c.len-len.result (c.len-run.ensures ∙ c.args.runs.now.ok.0) c.len-len.ensures c.in_ok-push.ensures.items c.in_ok-push-2.ensures.items c.requires

pub returns-clause-pushed : goal.returns-clause-pushed
returns-clause-pushed c =
    apart-lists c.args.runs.now.items c.push.new.self.items c.args.places.now.items c.push-2.new.self.items c.args.names c.len-run.result c.len-len.result (c.len-run.ensures ∙ c.args.runs.now.ok.0) c.len-len.ensures c.in_ok-push.ensures.items c.in_ok-push-2.ensures.items c.requires
