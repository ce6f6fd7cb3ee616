use Rattle.std.proofs.Common.{ap, sym, ◌∙◌}
use Rattle.std.specs.BTreeMap.{get_by_text}
use Rattle.std.specs.Option.{option_copied}
use Rattle.pipe_optimize.specs.Noted.{is_below}
use Rattle.pipe_optimize.proofs.first_places.FirstPlaces.is_below.Goals as goal

pub returns-in-Some : goal.returns-in-Some
returns-in-Some c = ap (is_below c.args.n) (sym (ap option_copied c.in-Some.is) ∙ c.get.ensures.value ∙ ap (get_by_text c.args.self.now.places) c.as_str.ensures)

pub returns-in-None : goal.returns-in-None
returns-in-None c = ap (is_below c.args.n) (sym (ap option_copied c.in-None.is) ∙ c.get.ensures.value ∙ ap (get_by_text c.args.self.now.places) c.as_str.ensures)
