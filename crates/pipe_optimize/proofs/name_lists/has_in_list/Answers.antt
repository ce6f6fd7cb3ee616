use Rattle.std.proofs.Common.{◌<◌, length, refl, ◌∙◌, arith}
use Rattle.pipe_optimize.proofs.Runs.{has-out, has-none, has-at}
use Rattle.pipe_optimize.proofs.name_lists.has_in_list.Goals as goal

pub returns-then-list-places : goal.returns-then-list-places
returns-then-list-places c = has-out c.args.runs.now c.args.places.now c.args.list c.args.name.now c.if-list-places.true

pub returns-then-run-runs : goal.returns-then-run-runs
returns-then-run-runs c =
    let lt : c.args.list < length c.args.places.now = omega (arith, c.if-list-places.false) in
    has-none c.args.runs.now c.args.places.now c.args.list (record { run = 0; len = 0 }) c.args.name.now lt c.if-run-runs.true

pub returns : goal.returns
returns c =
    let lt : c.args.list < length c.args.places.now = omega (arith, c.if-list-places.false) in
    c.has.ensures ∙ has-at c.args.runs.now c.args.places.now c.args.list _ _ (record { run = 0; len = 0 }) c.index-runs-run.result c.args.name.now lt refl refl c.if-run-runs.false c.index-runs-run.is
