use Rattle.std.proofs.Common.{rules, ◌≡◌, ◌+◌, ◌++◌, true, replicate, ap, ◌∙◌}
use Rattle.pipe_column.proofs.AllThere.{there-append}
use Rattle.pipe_column.proofs.validity.Validity.push_there.Goals as goal

pub returns-clause-ok : goal.returns-clause-ok
returns-clause-ok c =
    let sum : c.in-Some.all ≡ c.in-All.all + c.args.count = c.in-Some.ensures.1 in
    let view : replicate c.in-All.all true ≡ c.args.self.now = search rules in
    there-append c.in-All.all c.args.count c.in-Some.all sum ∙ ap (λ l. l ++ replicate c.args.count true) view
