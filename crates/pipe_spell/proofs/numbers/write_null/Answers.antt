use Rattle.std.proofs.lemmas.Result.{on_ok_weaker}
use Rattle.pipe_spell.proofs.Fronts.{wrote_null}
use Rattle.pipe_spell.proofs.numbers.write_null.Goals as goal

pub returns-clause-ok : goal.returns-clause-ok
returns-clause-ok c = on_ok_weaker c.null.result (λ e. wrote_null _ _ e) c.null.ensures.ok
