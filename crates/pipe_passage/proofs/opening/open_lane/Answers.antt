use Rattle.std.proofs.Common.{List, rules, refl, subst, sym}
use Rattle.pipe_passage.specs.LaneSeats.{StagesOpened}
use Rattle.pipe_passage.proofs.Opened.{lane-opened}
use Rattle.pipe_passage.proofs.opening.open_lane.Goals as goal

pub returns-clause-opened : goal.returns-clause-opened
returns-clause-opened g c =
    let e = c.in_ok-sink.ensures in
    let opened = subst (λ (made : List _). StagesOpened c.args.shared.now c.args.free.now c.open_stages.new.free c.args.stages.now c.in_ok-own.own.items made) (sym c.from_vec.ensures.items) c.in_ok-open_stages.ensures.opened in
    lane-opened g.K.Sink c.args.shared.now c.args.free.now c.open_stages.new.free c.args.stages.now c.args.target.now _ c.in_ok-own.own.items (search rules)
    opened
    (record { setting = e.setting; schema = e.schema; gives = e.gives; empty = e.empty }) refl refl (search rules) (search rules) refl
