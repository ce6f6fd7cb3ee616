use Rattle.std.proofs.lemmas.Result.{on_ok_weaker}
use Rattle.pipe_spell.proofs.Fronts.{wrote_string}
use Rattle.pipe_spell.proofs.numbers.write_str.Goals as goal

pub returns-clause-ok : goal.returns-clause-ok
returns-clause-ok c = on_ok_weaker c.string.result (λ e. wrote_string c.args.text.now _ _ e) c.string.ensures.ok
