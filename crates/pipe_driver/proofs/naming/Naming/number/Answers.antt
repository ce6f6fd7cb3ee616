use Rattle.std.proofs.Common.{◌≡◌, None, get_or, ap, ◌∙◌}
use Rattle.pipe_driver.specs.Branches.{number_of}
use Rattle.pipe_driver.specs.Climbing.{Named, is_sink_in}
use Rattle.pipe_driver.proofs.Names.{table-put, number-next}
use Rattle.pipe_driver.proofs.naming.Naming.number.Goals as goal

pub invariant_of-self-in-None : goal.invariant_of-self-in-None
invariant_of-self-in-None c =
    let free : get_or c.self.inside.numbers.items c.slot_of_sink-slot.result None ≡ None = cc in
    let put = table-put c.self.inside.nodes c.self.inside.sinks c.push.new.self c.self.inside.numbers.items c.args.at c.slot_of_sink-slot.result c.len-number.result
    c.self.invariant.1 c.self.invariant.2 c.self.invariant.3 c.slot_of_sink-slot.ensures
    (ap (λ (v : Named). is_sink_in v.nodes c.args.at) c.self.view_is ∙ c.requires) free c.len-number.ensures c.in_ok-push-in-None.ensures.ok in
    (c.self.invariant.0, put.0, put.1, put.2)

pub returns-in_ok-push-in-None-clause-number : goal.returns-in_ok-push-in-None-clause-number
returns-in_ok-push-in-None-clause-number c =
    let free : get_or c.self.inside.numbers.items c.slot_of_sink-slot.result None ≡ None = cc in
    number-next c.self.inside.sinks c.self.inside.numbers.items c.args.at c.slot_of_sink-slot.result c.len-number.result c.self.invariant.3 c.slot_of_sink-slot.ensures free c.len-number.ensures
    ∙ ap (λ (v : Named). number_of v.sinks c.args.at) c.self.view_is
