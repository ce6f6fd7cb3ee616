use Rattle.std.proofs.Common.{◌≡◌, ◌+◌, sym, subst}
use Rattle.pipe_value.specs.View.{view}
use Rattle.pipe_why_value.specs.Walks.{IsFirstBad}
use Rattle.pipe_why_value.proofs.Looks.{bad_found, none_found}
use Rattle.pipe_why_value.proofs.cells.BadCells.look_at.Goals as goal

pub returns-then-branch : goal.returns-then-branch
returns-then-branch c = λ were. none_found c.args.dtype (view c.args.values.now) c.args.row c.args.self.now.first (c.in_ok-is_cell_at.ensures.yes c.if-branch.true) were

pub returns : goal.returns
returns c = λ were.
    let d = view c.args.values.now in
    subst (λ f. IsFirstBad c.args.dtype d (c.args.row + 1) f) (sym c.or-self.ensures)
    (bad_found c.args.dtype d c.args.row c.args.self.now.first (c.requires, c.in_ok-is_cell_at.ensures.no c.if-branch.false) were)
