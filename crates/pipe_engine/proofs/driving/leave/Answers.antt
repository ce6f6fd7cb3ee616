use Rattle.std.proofs.Common.{◌+◌, ℕ, List, drop, get_or, map, ap, subst, sym, arith}
use Rattle.pipe_engine.specs.Known.{words_of}
use Rattle.pipe_driver.specs.Runs.{Passes}
use Rattle.pipe_driver.proofs.Drives.{node_counted, left_behind, settled_behind, drop_at, on_ok}
use Rattle.std.proofs.lemmas.Result.{IfErr-weaker}
use Rattle.pipe_engine.proofs.Pacing.{pace_still}
use Rattle.pipe_engine.proofs.Tellings.{leave_tells, settle_tells}
use Rattle.pipe_engine.proofs.Mays.{may_leave, may_settle}
use Rattle.pipe_engine.proofs.Driven.{leg_runs}
use Rattle.pipe_engine.proofs.Asked.{asked-all, asked-less}
use Rattle.pipe_events.specs.Worlds.{Event}
use Rattle.pipe_driver.proofs.Drives.{run_with}
use Rattle.pipe_engine.specs.Noted.{NotedBetween}
use Rattle.pipe_engine.specs.Journals.{events_in}
use Rattle.pipe_engine.proofs.Noted.{noted_left, noted_ended}
use Rattle.pipe_events.specs.EventValues.{event_value}
use Rattle.pipe_engine.proofs.driving.leave.Goals as goal

pub lower-requires : goal.lower-requires
lower-requires g c =
    let can = c.requires.can in
    let k = can.k in
    let node = get_or c.args.operators.now c.args.place 0 in
    let Q : List ℕ → Type 0 = λ ops. Passes (words_of g.H.KeyHasher.hash_of k) k.task c.args.run.now ops c.args.at c.args.pipelines.now.items in
    record {
      some = node_counted (words_of g.H.KeyHasher.hash_of k) k.task c.args.run.now node (drop (c.args.place + 1) c.args.operators.now) c.args.at c.args.pipelines.now.items
          (subst Q (drop_at c.args.operators.now c.args.place 0 c.requires.there) can.is.passes);
    }

pub settle_node-requires-clause-runs : goal.settle_node-requires-clause-runs
settle_node-requires-clause-runs g c = λ κs lives. (
    let can = c.requires.can in
    let k = can.k in
    let Q : List ℕ → Type 0 = λ ops. Passes (words_of g.H.KeyHasher.hash_of k) k.task c.args.run.now ops c.args.at c.args.pipelines.now.items in
    let passes = subst Q (drop_at c.args.operators.now c.args.place 0 c.requires.there) can.is.passes in
    leg_runs c.args.run.now.runner _ c.args.at passes.before)

pub settle_node-requires-clause-may : goal.settle_node-requires-clause-may
settle_node-requires-clause-may g c = λ κs lives. (
    let can = c.requires.can in
    let k = can.k in
    let node = get_or c.args.operators.now c.args.place 0 in
    let Q : List ℕ → Type 0 = λ ops. Passes (words_of g.H.KeyHasher.hash_of k) k.task c.args.run.now ops c.args.at c.args.pipelines.now.items in
    let passes = subst Q (drop_at c.args.operators.now c.args.place 0 c.requires.there) can.is.passes in
    record { x = k.settings; m = k.task.m; may = may_settle (words_of g.H.KeyHasher.hash_of k) k.task c.args.run.now node c.lower.result (drop (c.args.place + 1) c.args.operators.now) c.args.at c.args.pipelines.now.items can.is.sound passes c.lower.ensures.here c.if-lower-eq0.true })

pub leave_node-requires-clause-runs : goal.leave_node-requires-clause-runs
leave_node-requires-clause-runs g c = λ κs lives. (
    let can = c.requires.can in
    let k = can.k in
    let Q : List ℕ → Type 0 = λ ops. Passes (words_of g.H.KeyHasher.hash_of k) k.task c.args.run.now ops c.args.at c.args.pipelines.now.items in
    let passes = subst Q (drop_at c.args.operators.now c.args.place 0 c.requires.there) can.is.passes in
    leg_runs c.args.run.now.runner _ c.args.at passes.before)

pub leave_node-requires-clause-may : goal.leave_node-requires-clause-may
leave_node-requires-clause-may g c = λ κs lives. (
    let can = c.requires.can in
    let k = can.k in
    let node = get_or c.args.operators.now c.args.place 0 in
    let Q : List ℕ → Type 0 = λ ops. Passes (words_of g.H.KeyHasher.hash_of k) k.task c.args.run.now ops c.args.at c.args.pipelines.now.items in
    let passes = subst Q (drop_at c.args.operators.now c.args.place 0 c.requires.there) can.is.passes in
    record { x = k.settings; m = k.task.m; may = may_leave (words_of g.H.KeyHasher.hash_of k) k.task c.args.run.now node (drop (c.args.place + 1) c.args.operators.now) c.args.at c.args.pipelines.now.items passes })

pub returns-then-lower-eq0-clause-passes : goal.returns-then-lower-eq0-clause-passes
returns-then-lower-eq0-clause-passes g c =
    let node = get_or c.args.operators.now c.args.place 0 in
    on_ok c.settle_node.result
    (λ h. λ k can. (
    let Q : List ℕ → Type 0 = λ ops. Passes (words_of g.H.KeyHasher.hash_of k) k.task c.args.run.now ops c.args.at c.args.pipelines.now.items in
    let passes = subst Q (drop_at c.args.operators.now c.args.place 0 c.requires.there) can.passes in
    settled_behind (words_of g.H.KeyHasher.hash_of k) k.task c.args.run.now c.settle_node.new.engine c.lower.new.self node c.lower.result (drop (c.args.place + 1) c.args.operators.now) c.args.at c.args.pipelines.now.items can.sound passes
    (record { here = c.lower.ensures.here; all = c.lower.ensures.all }) c.if-lower-eq0.true (h k.settings)))
    c.settle_node.ensures.settled

pub returns-else-lower-eq0-clause-passes : goal.returns-else-lower-eq0-clause-passes
returns-else-lower-eq0-clause-passes g c =
    let node = get_or c.args.operators.now c.args.place 0 in
    on_ok c.leave_node.result
    (λ h. λ k can. (
    let Q : List ℕ → Type 0 = λ ops. Passes (words_of g.H.KeyHasher.hash_of k) k.task c.args.run.now ops c.args.at c.args.pipelines.now.items in
    let passes = subst Q (drop_at c.args.operators.now c.args.place 0 c.requires.there) can.passes in
    left_behind (words_of g.H.KeyHasher.hash_of k) k.task c.args.run.now c.leave_node.new.engine c.lower.new.self node c.lower.result (drop (c.args.place + 1) c.args.operators.now) c.args.at c.args.pipelines.now.items passes
    (record { here = c.lower.ensures.here; all = c.lower.ensures.all }) c.if-lower-eq0.false (h k.settings)))
    c.leave_node.ensures.left

pub returns-then-lower-eq0-clause-asked : goal.returns-then-lower-eq0-clause-asked
returns-then-lower-eq0-clause-asked g c = asked-less g.C.StopCheck 1 0 _ _ _ (omega arith) c.settle_node.ensures.asked

pub returns-else-lower-eq0-clause-asked : goal.returns-else-lower-eq0-clause-asked
returns-else-lower-eq0-clause-asked g c = asked-all g.C.StopCheck _ _ c.leave_node.ensures.calm

pub returns-then-lower-eq0-clause-context : goal.returns-then-lower-eq0-clause-context
returns-then-lower-eq0-clause-context g c = c.settle_node.ensures.context

pub returns-else-lower-eq0-clause-context : goal.returns-else-lower-eq0-clause-context
returns-else-lower-eq0-clause-context g c = c.leave_node.ensures.context

pub returns-then-lower-eq0-clause-noted : goal.returns-then-lower-eq0-clause-noted
returns-then-lower-eq0-clause-noted g c =
    let node = get_or c.args.operators.now c.args.place 0 in
    on_ok c.settle_node.result
    (λ h. λ k can v staged noted. (
    let Q : List ℕ → Type 0 = λ ops. Passes (words_of g.H.KeyHasher.hash_of k) k.task c.args.run.now ops c.args.at c.args.pipelines.now.items in
    let now = drop (c.args.place + 1) c.args.operators.now in
    let passes = subst Q (drop_at c.args.operators.now c.args.place 0 c.requires.there) can.passes in
    let wrote = h k.settings k.task.m passes.w now c.args.at v passes.fits passes.before passes.passing.tables staged in
    let N : List Event → Type 0 = NotedBetween v k.task (run_with c.settle_node.new.engine c.args.run.now.parked c.args.run.now.counts c.lower.new.self) c.args.pipelines.now.items in
    subst N (sym wrote.whole)
    (noted_ended (words_of g.H.KeyHasher.hash_of k) k.task v c.args.run.now c.settle_node.new.engine c.lower.new.self node c.lower.result now c.args.at c.args.pipelines.now.items (events_in c.args.run.now.runner) wrote.more staged.board passes
    (record { here = c.lower.ensures.here; all = c.lower.ensures.all }) c.if-lower-eq0.true noted wrote.are)))
    c.settle_node.ensures.wrote

pub returns-else-lower-eq0-clause-noted : goal.returns-else-lower-eq0-clause-noted
returns-else-lower-eq0-clause-noted g c =
    let node = get_or c.args.operators.now c.args.place 0 in
    on_ok c.leave_node.result
    (λ h. λ k can v staged noted. (
    let N : List Event → Type 0 = NotedBetween v k.task (run_with c.leave_node.new.engine c.args.run.now.parked c.args.run.now.counts c.lower.new.self) c.args.pipelines.now.items in
    subst N (sym (ap (λ j. map event_value j.items) h))
    (noted_left (words_of g.H.KeyHasher.hash_of k) k.task v c.args.run.now c.leave_node.new.engine c.lower.new.self node c.lower.result c.args.pipelines.now.items (events_in c.args.run.now.runner)
    (record { here = c.lower.ensures.here; all = c.lower.ensures.all }) c.if-lower-eq0.false noted)))
    c.leave_node.ensures.wrote

pub returns-then-lower-eq0-clause-err : goal.returns-then-lower-eq0-clause-err
returns-then-lower-eq0-clause-err g c =
    let node = get_or c.args.operators.now c.args.place 0 in
    IfErr-weaker c.settle_node.result _ _
    (λ e h. λ k can. (
    let Q : List ℕ → Type 0 = λ ops. Passes (words_of g.H.KeyHasher.hash_of k) k.task c.args.run.now ops c.args.at c.args.pipelines.now.items in
    let passes = subst Q (drop_at c.args.operators.now c.args.place 0 c.requires.there) can.passes in
    settle_tells (words_of g.H.KeyHasher.hash_of k) k.task c.args.run.now node c.lower.result (drop (c.args.place + 1) c.args.operators.now) c.args.at c.args.pipelines.now.items _ e can.sound passes c.lower.ensures.here c.if-lower-eq0.true (h k.settings)))
    c.settle_node.ensures.err

pub returns-else-lower-eq0-clause-err : goal.returns-else-lower-eq0-clause-err
returns-else-lower-eq0-clause-err g c =
    let node = get_or c.args.operators.now c.args.place 0 in
    IfErr-weaker c.leave_node.result _ _
    (λ e h. λ k can. (
    let Q : List ℕ → Type 0 = λ ops. Passes (words_of g.H.KeyHasher.hash_of k) k.task c.args.run.now ops c.args.at c.args.pipelines.now.items in
    let passes = subst Q (drop_at c.args.operators.now c.args.place 0 c.requires.there) can.passes in
    leave_tells (words_of g.H.KeyHasher.hash_of k) k.task c.args.run.now node (drop (c.args.place + 1) c.args.operators.now) c.args.at c.args.pipelines.now.items _ e can.sound passes (h k.settings)))
    c.leave_node.ensures.err

pub returns-then-lower-eq0-clause-kept : goal.returns-then-lower-eq0-clause-kept
returns-then-lower-eq0-clause-kept g c = c.settle_node.ensures.kept

pub returns-else-lower-eq0-clause-kept : goal.returns-else-lower-eq0-clause-kept
returns-else-lower-eq0-clause-kept g c = on_ok c.leave_node.result (λ h. pace_still (g.C.StopCheck.asked c.args.stop.now) c.args.run.now.runner c.leave_node.new.engine h) c.leave_node.ensures.wrote

pub returns-then-lower-eq0-clause-sinks : goal.returns-then-lower-eq0-clause-sinks
returns-then-lower-eq0-clause-sinks g c = c.settle_node.ensures.sinks

pub returns-else-lower-eq0-clause-sinks : goal.returns-else-lower-eq0-clause-sinks
returns-else-lower-eq0-clause-sinks g c = c.leave_node.ensures.sinks
