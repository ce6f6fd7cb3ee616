use Rattle.std.proofs.Common.{ℕ, List, subst, arith, refl, Option, sym}
use Rattle.pipe_driver.specs.Lines.{leg_as}
use Rattle.pipe_source.specs.declared.phys_source.PhysSource.{PhysSource}
use Rattle.pipe_engine.specs.Paced.{TakesPaced, most_of, rows_due_from}
use Rattle.pipe_engine.specs.Known.{words_of}
use Rattle.pipe_driver.specs.Runs.{Parks}
use Rattle.pipe_driver.proofs.Drives.{no_source, some_map, some_vec, first_is, has_led}
use Rattle.pipe_engine.proofs.Breaking.{err_same}
use Rattle.pipe_engine.proofs.Tellings.{pass_tells}
use Rattle.pipe_engine.proofs.Mays.{may_run}
use Rattle.pipe_engine.proofs.Asked.{asked-lost, asked-made, asked_passed}
use Rattle.pipe_events.specs.Worlds.{Event}
use Rattle.pipe_driver.proofs.Drives.{run_with}
use Rattle.pipe_engine.specs.Noted.{NotedBetween}
use Rattle.pipe_engine.specs.Journals.{events_in}
use Rattle.pipe_engine.proofs.Noted.{noted_led, told_first}
use Rattle.pipe_engine.proofs.driving.pass.Goals as goal

pub unreachable-requires : goal.unreachable-requires
unreachable-requires g c =
    let can = c.requires.can in
    no_source (words_of g.H.KeyHasher.hash_of can.k) can.k.task c.args.current.start c.args.current.source can.is.ready.line.source c.in_default.is

pub remove-operators-requires : goal.remove-operators-requires
remove-operators-requires g c =
    let can = c.requires.can in
    some_vec c.args.current.legs (some_map (leg_as can.k.task.m.ordered) c.args.current.legs.items can.is.ready.ready.way.some)

pub run_leg-requires-clause-idle : goal.run_leg-requires-clause-idle
run_leg-requires-clause-idle g c = λ κs lives. c.requires.idle

pub run_leg-requires-clause-may : goal.run_leg-requires-clause-may
run_leg-requires-clause-may g c = λ κs lives. (
    let can = c.requires.can in
    let k = can.k in
    let ready = can.is.ready in
    let leg = c.remove-operators.result in
    let legs = c.remove-operators.new.self.items in
    let first = first_is c.args.current.legs.items legs leg (some_map (leg_as k.task.m.ordered) c.args.current.legs.items ready.ready.way.some) c.remove-operators.ensures.value c.remove-operators.ensures.items in
    record { x = k.settings; m = k.task.m; may = may_run (words_of g.H.KeyHasher.hash_of k) k.task c.args.current c.args.run.now c.args.pipelines.now.items c.in-Some.source leg legs can.is.sound ready c.in-Some.is first })

pub returns-clause-led : goal.returns-clause-led
returns-clause-led g c = λ k can. (
    let leg = c.remove-operators.result in
    let legs = c.remove-operators.new.self.items in
    let first = first_is c.args.current.legs.items legs leg (some_map (leg_as k.task.m.ordered) c.args.current.legs.items can.ready.ready.way.some) c.remove-operators.ensures.value c.remove-operators.ensures.items in
    let Q : ℕ → Type 0 = λ n. Parks n legs c.args.run.now.parked.items c.park.new.parked.items in
    has_led (words_of g.H.KeyHasher.hash_of k) k.task c.args.current c.args.run.now c.run_leg.new.engine c.park.new.parked c.args.pipelines.now.items c.in-Some.source leg legs can.sound can.ready c.in-Some.is first (c.in_ok-run_leg.ensures.ran k.settings)
    (subst Q c.node_at.ensures c.in-Ok.ensures))

pub returns-in_err-run_leg-clause-asked : goal.returns-in_err-run_leg-clause-asked
returns-in_err-run_leg-clause-asked g c = asked_passed g.C.StopCheck 0 0 _ _ _ _ c.from_residual.ensures.1 c.in_err-run_leg.ensures.asked

pub returns-in_default-park-clause-asked : goal.returns-in_default-park-clause-asked
returns-in_default-park-clause-asked g c = asked-lost g.C.StopCheck 0 0 _ _ _ _ refl c.in_ok-run_leg.ensures.asked

pub returns-clause-asked : goal.returns-clause-asked
returns-clause-asked g c = asked-made g.C.StopCheck 0 0 _ _ _ _ (omega arith) c.in_ok-run_leg.ensures.asked

pub returns-clause-paced : goal.returns-clause-paced
returns-clause-paced g c = (
    let D : Option PhysSource → Type 0 = λ s. TakesPaced (most_of c.args.run.now.runner.context) (rows_due_from s) 0 (g.C.StopCheck.asked c.args.stop.now) (g.C.StopCheck.asked c.run_leg.new.stop) in
    subst D (sym c.in-Some.is) c.in_ok-run_leg.ensures.paced)

pub returns-in_err-run_leg-clause-context : goal.returns-in_err-run_leg-clause-context
returns-in_err-run_leg-clause-context g c = c.run_leg.ensures.context

pub returns-in_default-park-clause-context : goal.returns-in_default-park-clause-context
returns-in_default-park-clause-context g c = c.run_leg.ensures.context

pub returns-clause-context : goal.returns-clause-context
returns-clause-context g c = c.run_leg.ensures.context

pub returns-clause-noted : goal.returns-clause-noted
returns-clause-noted g c = λ k can v staged noted. (
    let leg = c.remove-operators.result in
    let legs = c.remove-operators.new.self.items in
    let first = first_is c.args.current.legs.items legs leg (some_map (leg_as k.task.m.ordered) c.args.current.legs.items can.ready.ready.way.some) c.remove-operators.ensures.value c.remove-operators.ensures.items in
    let Q : ℕ → Type 0 = λ n. Parks n legs c.args.run.now.parked.items c.park.new.parked.items in
    let parks = subst Q c.node_at.ensures c.in-Ok.ensures in
    let told = told_first v k.task.m c.args.current leg legs c.in-Some.source c.in-Some.is first noted.line in
    let wrote = c.in_ok-run_leg.ensures.wrote k.settings k.task.m c.args.current.start v told.0 told.1 staged in
    let N : List Event → Type 0 = NotedBetween v k.task (run_with c.run_leg.new.engine c.park.new.parked c.args.run.now.counts c.args.run.now.probers) c.args.pipelines.now.items in
    subst N (sym wrote.whole)
    (noted_led (words_of g.H.KeyHasher.hash_of k) k.task v c.args.current c.args.run.now c.run_leg.new.engine c.park.new.parked c.args.pipelines.now.items leg legs (events_in c.args.run.now.runner) wrote.more can.sound staged.board can.ready first parks noted wrote.are))

pub returns-in_err-run_leg-clause-err : goal.returns-in_err-run_leg-clause-err
returns-in_err-run_leg-clause-err g c = err_same _ _ _ c.from_residual.ensures.1 (λ k can. (
    let leg = c.remove-operators.result in
    let legs = c.remove-operators.new.self.items in
    let first = first_is c.args.current.legs.items legs leg (some_map (leg_as k.task.m.ordered) c.args.current.legs.items can.ready.ready.way.some) c.remove-operators.ensures.value c.remove-operators.ensures.items in
    pass_tells (words_of g.H.KeyHasher.hash_of k) k.task c.args.current c.args.run.now c.args.pipelines.now.items c.in-Some.source leg legs _ _ can.sound can.ready c.in-Some.is first (c.in_err-run_leg.ensures.err k.settings)))

pub returns-in_default-park-clause-err : goal.returns-in_default-park-clause-err
returns-in_default-park-clause-err g c = λ k can. tt

pub returns-clause-kept : goal.returns-clause-kept
returns-clause-kept g c = c.in_ok-run_leg.ensures.kept

pub returns-in_err-run_leg-clause-sinks : goal.returns-in_err-run_leg-clause-sinks
returns-in_err-run_leg-clause-sinks g c = c.run_leg.ensures.sinks

pub returns-in_default-park-clause-sinks : goal.returns-in_default-park-clause-sinks
returns-in_default-park-clause-sinks g c = c.run_leg.ensures.sinks

pub returns-clause-sinks : goal.returns-clause-sinks
returns-clause-sinks g c = c.run_leg.ensures.sinks
