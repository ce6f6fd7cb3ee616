use Rattle.std.proofs.Common.{true, false, ◌&&◌, replicate, ap, ◌∙◌}
use Rattle.pipe_column.specs.Column.{value_at}
use Rattle.pipe_column.proofs.AllThere.{all_true-place}
use Rattle.pipe_column.proofs.validity.are_within.Goals as goal

pub loop-place-preserved : goal.loop-place-preserved
loop-place-preserved g c =
    let within = value_at (replicate c.args.count true) false in
    ap (λ all. all && c.is_within-all.result) c.loop-place.invariant
    ∙ all_true-place within g.P.Place.place c.args.places.now c.loop-place.place-index c.place-item.result c.is_within-all.result c.loop-place-test.true c.place-item.is (c.is_within-all.ensures ∙ ap within c.place.ensures)
