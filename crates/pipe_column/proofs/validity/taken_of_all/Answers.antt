use Rattle.std.proofs.Common.{true, false, replicate, sym, ◌∙◌}
use Rattle.pipe_column.specs.Column.{value_at}
use Rattle.pipe_column.proofs.AllThere.{replicate_of-places}
use Rattle.pipe_column.proofs.validity.taken_of_all.Goals as goal

pub returns-then-are_within : goal.returns-then-are_within
returns-then-are_within g c = c.all.ensures ∙ replicate_of-places (value_at (replicate c.args.count true) false) g.P.Place.place c.args.places.now (sym c.are_within.ensures ∙ c.if-are_within.true)
