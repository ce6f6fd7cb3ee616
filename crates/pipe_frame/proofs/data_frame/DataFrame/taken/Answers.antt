use Rattle.std.proofs.Common.{map, sym}
use Rattle.std.proofs.lemmas.List.{length-map}
use Rattle.pipe_frame.proofs.RowOps.{table_of-taken, good-taken}
use Rattle.pipe_frame.proofs.data_frame.DataFrame.taken.Goals as goal

pub invariant_of-result : goal.invariant_of-result
invariant_of-result g c = good-taken c.self.inside.columns.items (map g.P.Place.place c.args.places.now) _ c.self.invariant.0 c.self.invariant.1 c.in_ok-try_clone.ensures (rw c.as_slice.ensures.value at c.in_ok-take_columns.ensures) (sym (length-map c.args.places.now g.P.Place.place))

pub returns : goal.returns
returns g c = table_of-taken c.self.inside.columns.items c.self.inside.height (map g.P.Place.place c.args.places.now) _ c.self.view_is c.requires (rw c.as_slice.ensures.value at c.in_ok-take_columns.ensures) (sym (length-map c.args.places.now g.P.Place.place))
