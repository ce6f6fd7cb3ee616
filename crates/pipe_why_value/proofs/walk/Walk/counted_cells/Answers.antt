use Rattle.std.proofs.Common.{◌≡◌, refl, subst, arith, Some, None}
use Rattle.pipe_value.specs.View.{view}
use Rattle.pipe_why_text.specs.declared.want.Want.TheVariants as want
use Rattle.pipe_why_value.specs.Places.{IsBadCell}
use Rattle.pipe_why_value.specs.Walks.{AreCellsBefore, IsFirstBad}
use Rattle.pipe_why_value.proofs.Goods.{cells_good}
use Rattle.pipe_why_value.proofs.Looks.{good_cells, looked_none, on_ok, some_none}
use Rattle.pipe_why_value.proofs.walk.Walk.counted_cells.Goals as goal

pub bad_cells-requires : goal.bad_cells-requires
bad_cells-requires c = omega (arith, c.requires.counted)

pub returns-in-Some-clause-looked : goal.returns-in-Some-clause-looked
returns-in-Some-clause-looked c =
    let d = view c.args.value.now in
    let row = c.in-Some.row in
    let bad : IsBadCell c.args.dtype d row × AreCellsBefore c.args.dtype d row = subst (λ f. IsFirstBad c.args.dtype d c.args.count f) c.in-Some.is c.in_ok-bad.ensures in
    on_ok c.bad_cell.result
    (λ looked t. looked d t bad.0 (λ none. good_cells c.args.dtype d t row (omega (arith, bad.0.0)) bad.1))
    c.bad_cell.ensures.looked

pub returns-in-Some-clause-good : goal.returns-in-Some-clause-good
returns-in-Some-clause-good c = on_ok c.bad_cell.result (λ some t none. absurd (some_none c.bad_cell.new.self.first some none)) c.bad_cell.ensures.some

pub returns-in-None-clause-looked : goal.returns-in-None-clause-looked
returns-in-None-clause-looked c = λ t. looked_none (want.Cells c.args.dtype, view c.args.value.now, t) c.args.self.now _ refl refl

pub returns-in-None-clause-good : goal.returns-in-None-clause-good
returns-in-None-clause-good c = λ t none.
    let d = view c.args.value.now in
    cells_good c.args.dtype d t c.args.count c.requires (subst (λ f. IsFirstBad c.args.dtype d c.args.count f) c.in-None.is c.in_ok-bad.ensures)
