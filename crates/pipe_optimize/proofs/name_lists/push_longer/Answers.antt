use Rattle.std.proofs.Common.{refl}
use Rattle.pipe_optimize.proofs.Runs.{grown-within, grown-at, longer-within, longer-lists}
use Rattle.pipe_optimize.proofs.name_lists.push_longer.Goals as goal

pub returns-in_err-lengthen-clause-within : goal.returns-in_err-lengthen-clause-within
returns-in_err-lengthen-clause-within c =
    grown-within c.args.runs.now.items _ c.args.places.now.items c.args.places.now.items (grown-at c.args.runs.now.items c.args.run c.index_mut-names.result.now c.lengthen.new.names c.requires.there c.index_mut-names.ensures.value c.in_err-lengthen.ensures.grown) refl c.requires.within

pub returns-in_err-push-clause-within : goal.returns-in_err-push-clause-within
returns-in_err-push-clause-within c =
    grown-within c.args.runs.now.items _ c.args.places.now.items c.push.new.self.items (grown-at c.args.runs.now.items c.args.run c.index_mut-names.result.now c.lengthen.new.names c.requires.there c.index_mut-names.ensures.value c.in_ok-lengthen.ensures.grown) c.in_err-push.ensures.items c.requires.within

pub returns-clause-within : goal.returns-clause-within
returns-clause-within c =
    longer-within c.args.runs.now.items c.args.places.now.items c.push.new.self.items c.args.run c.len-len.result c.index_mut-names.result.now c.lengthen.new.names c.requires.there c.index_mut-names.ensures.value c.in_ok-lengthen.ensures.grown c.len-len.ensures c.in_ok-push.ensures.items c.requires.within

pub returns-clause-pushed : goal.returns-clause-pushed
returns-clause-pushed c =
    longer-lists c.args.runs.now.items c.args.places.now.items c.push.new.self.items c.args.run c.len-len.result c.index_mut-names.result.now c.lengthen.new.names c.args.more c.requires.there c.index_mut-names.ensures.value c.in_ok-lengthen.ensures.grown c.in_ok-lengthen.ensures.all c.len-len.ensures c.in_ok-push.ensures.items c.requires.within
