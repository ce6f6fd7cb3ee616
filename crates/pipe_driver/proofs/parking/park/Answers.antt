use Rattle.std.proofs.Common.{List, None, refl, sym, subst, ◌∙◌}
use Rattle.pipe_driver.specs.declared.pipe_line.PipeLine.{PipeLine}
use Rattle.pipe_driver.specs.Runs.{Parks}
use Rattle.pipe_driver.proofs.Drives.{parks_one, parks_none, some_items}
use Rattle.pipe_driver.proofs.parking.park.Goals as goal

pub returns-then-is_empty : goal.returns-then-is_empty
returns-then-is_empty g c = parks_none c.args.start c.args.legs c.args.parked.now.items (sym c.is_empty.ensures ∙ c.if-is_empty.true)

pub returns : goal.returns
returns g c =
    let q : PipeLine g.row.S.Denot g.row.P.Denot = record { start = c.args.start; source = None; legs = c.args.legs } in
    let Q : List (PipeLine g.row.S.Denot g.row.P.Denot) → Type 0 = Parks c.args.start c.args.legs.items c.args.parked.now.items in
    subst Q (sym c.in_ok-push.ensures.items) (parks_one c.args.start q c.args.parked.now.items (some_items c.args.legs (sym c.is_empty.ensures ∙ c.if-is_empty.false)) refl)
