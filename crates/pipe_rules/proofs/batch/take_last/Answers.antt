use Rattle.std.proofs.Common.{◌++◌, ap, ◌∙◌}
use Rattle.std.specs.Option.{option_to_list}
use Rattle.pipe_rules.proofs.Reaches.{taken-none, taken-last}
use Rattle.pipe_rules.proofs.batch.take_last.Goals as goal

pub returns-in-Some : goal.returns-in-Some
returns-in-Some c fields all h =
    let rest = c.pop.new.self.items in
    taken-last fields all c.args.chunks.now.items rest c.in-Some.chunk (c.pop.ensures.items ∙ ap (λ o. rest ++ option_to_list o) c.in-Some.is) h

pub returns-in-None : goal.returns-in-None
returns-in-None c fields all h =
    let rest = c.pop.new.self.items in
    taken-none fields all c.args.chunks.now.items rest c.new.result (c.pop.ensures.items ∙ ap (λ o. rest ++ option_to_list o) c.in-None.is) c.new.ensures h
