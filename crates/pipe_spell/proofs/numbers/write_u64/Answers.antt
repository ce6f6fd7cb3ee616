use Rattle.std.proofs.Common.{arith}
use Rattle.std.proofs.lemmas.Result.{on_ok_weaker}
use Rattle.json.proofs.Printed.Decimals.{IsNumber-decimal}
use Rattle.pipe_spell.proofs.Fronts.{printable_push, wrote_whole}
use Rattle.pipe_spell.proofs.numbers.write_u64.Goals as goal

pub returns-clause-ok : goal.returns-clause-ok
returns-clause-ok c = on_ok_weaker c.u64.result (λ e. wrote_whole c.args.n _ _ (omega arith) e) c.u64.ensures.ok

pub returns-clause-printable : goal.returns-clause-printable
returns-clause-printable c = on_ok_weaker c.u64.result (λ e. printable_push _ _ _ (IsNumber-decimal c.args.n (omega arith)) e) c.u64.ensures.ok
