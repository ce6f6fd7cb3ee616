use Rattle.std.proofs.Common.{◌<◌, ◌∙◌, length, arith}
use Rattle.pipe_optimize.proofs.Runs.{listed-at}
use Rattle.pipe_optimize.proofs.name_lists.names_of_list.Goals as goal

pub returns : goal.returns
returns c =
    let lt : c.args.list < length c.args.places.now = omega (arith, c.if-list-places.false) in
    c.names_of_place.ensures ∙ listed-at c.args.runs.now c.args.places.now c.args.list (record { run = 0; len = 0 }) lt
