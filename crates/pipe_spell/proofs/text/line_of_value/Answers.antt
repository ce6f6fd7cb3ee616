use Rattle.std.proofs.Common.{◌≡◌, [], ◌∷◌, ◌++◌, rules}
use Rattle.pipe_value.specs.View.{view}
use Rattle.pipe_spell.proofs.Lines.{line_is, line_utf8}
use Rattle.pipe_spell.proofs.text.line_of_value.Goals as goal

pub returns-clause-text : goal.returns-clause-text
returns-clause-text c =
    let pushed : c.push.new.self.items ≡ c.in_ok-line.line.items ++ 10 ∷ [] = search rules in
    line_is (view c.args.value.now) c.in_ok-line.line.items c.push.new.self.items c.in_ok-line.ensures.printed pushed

pub returns-clause-utf8 : goal.returns-clause-utf8
returns-clause-utf8 c =
    let pushed : c.push.new.self.items ≡ c.in_ok-line.line.items ++ 10 ∷ [] = search rules in
    line_utf8 (view c.args.value.now) c.in_ok-line.line.items c.push.new.self.items c.in_ok-line.ensures.printed pushed
