use Rattle.std.proofs.Common.{◌<◌, length, refl, arith}
use Rattle.pipe_optimize.proofs.Runs.{whole-at}
use Rattle.pipe_optimize.proofs.name_lists.whole_run.Goals as goal

pub returns : goal.returns
returns c =
    let lt : c.args.list < length c.args.places.now = omega (arith, c.if-list-places.false) in
    whole-at c.args.runs.now c.args.places.now c.args.list _ _ (record { run = 0; len = 0 }) c.names_of_run-names.result.now lt refl refl c.if-run-runs.false c.names_of_run-names.ensures c.if-names-len.false
