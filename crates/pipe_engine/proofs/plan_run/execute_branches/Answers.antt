use Rattle.std.proofs.Common.{subst, ap, map}
use Rattle.pipe_schema.specs.Rows.{Same}
use Rattle.pipe_engine.specs.Known.{words_of, known_of}
use Rattle.std.proofs.lemmas.Result.{IfErr-weaker}
use Rattle.pipe_engine.proofs.Tellings.{plan_tells}
use Rattle.pipe_engine.proofs.Entry.{if_ok, root_rows, stand_between, stand_open, sound_of}
use Rattle.pipe_engine.proofs.Limits.{keeps_limit, on_ok}
use Rattle.pipe_events.specs.EventValues.{event_value}
use Rattle.pipe_engine.specs.Journals.{events_in, staging_of}
use Rattle.pipe_engine.proofs.FirstNoted.{stand_noted}
use Rattle.pipe_engine.proofs.plan_run.execute_branches.Goals as goal

pub run_fronts-requires-clause-can : goal.run_fronts-requires-clause-can
run_fronts-requires-clause-can g c = λ κs lives. (
    let asked = c.requires.stand.asked in
    let r = words_of g.H.KeyHasher.hash_of (known_of asked) in
    let is = c.requires.stand.stand in
    record {
      k = known_of asked;
      is = record {
        sound = sound_of r asked.ask c.args.run c.args.pipelines.items is;
        between = stand_between r asked.ask c.args.run c.args.pipelines.items is;
        root = stand_open r asked.ask c.args.run c.args.pipelines.items is;
      };
    })

pub run_fronts-requires-clause-parked : goal.run_fronts-requires-clause-parked
run_fronts-requires-clause-parked g c = λ κs lives. c.requires.stand.stand.parked

pub returns-clause-rows : goal.returns-clause-rows
returns-clause-rows g c =
    if_ok c.run_fronts.result
    (λ frame has asked is. (
    let r = words_of g.H.KeyHasher.hash_of (known_of asked) in
    subst (Same frame.rows) (root_rows asked.ask) (has (known_of asked) (record {
      sound = sound_of r asked.ask c.args.run c.args.pipelines.items is;
      between = stand_between r asked.ask c.args.run c.args.pipelines.items is;
      root = stand_open r asked.ask c.args.run c.args.pipelines.items is;
    }))))
    c.run_fronts.ensures.root

pub returns-clause-asked : goal.returns-clause-asked
returns-clause-asked g c = c.run_fronts.ensures.asked

pub returns-clause-yes : goal.returns-clause-yes
returns-clause-yes g c = c.run_fronts.ensures.yes

pub returns-clause-last : goal.returns-clause-last
returns-clause-last g c = c.run_fronts.ensures.last

pub returns-clause-paced : goal.returns-clause-paced
returns-clause-paced g c = c.run_fronts.ensures.paced

pub returns-clause-frame : goal.returns-clause-frame
returns-clause-frame g c =
    if_ok c.run_fronts.result
    (λ frame has asked is. (
    let r = words_of g.H.KeyHasher.hash_of (known_of asked) in
    (has (known_of asked) (record {
      sound = sound_of r asked.ask c.args.run c.args.pipelines.items is;
      between = stand_between r asked.ask c.args.run c.args.pipelines.items is;
      root = stand_open r asked.ask c.args.run c.args.pipelines.items is;
    }))))
    c.run_fronts.ensures.frame

pub returns-clause-within : goal.returns-clause-within
returns-clause-within g c =
    on_ok c.run_fronts.result
    (λ has asked is. (
    let r = words_of g.H.KeyHasher.hash_of (known_of asked) in
    keeps_limit c.args.run.runner.context.row_limit asked.ask.plan asked.ask.root is.well (has (known_of asked) (record {
      sound = sound_of r asked.ask c.args.run c.args.pipelines.items is;
      between = stand_between r asked.ask c.args.run c.args.pipelines.items is;
      root = stand_open r asked.ask c.args.run c.args.pipelines.items is;
    }))))
    c.run_fronts.ensures.within

pub returns-clause-journal : goal.returns-clause-journal
returns-clause-journal g c =
    on_ok c.run_fronts.result
    (λ has asked setting is empty listed staged. (
    let r = words_of g.H.KeyHasher.hash_of (known_of asked) in
    let v = staging_of asked.ask setting in
    has (known_of asked) (record {
      sound = sound_of r asked.ask c.args.run c.args.pipelines.items is;
      between = stand_between r asked.ask c.args.run c.args.pipelines.items is;
      root = stand_open r asked.ask c.args.run c.args.pipelines.items is;
    }) v staged (stand_noted g.H.KeyHasher.hash_of asked.settings asked.ask setting c.args.run c.args.pipelines.items (events_in c.args.run.runner) is (ap (map event_value) empty) listed staged.board.ok)))
    c.run_fronts.ensures.journal

pub returns-clause-err : goal.returns-clause-err
returns-clause-err g c =
    IfErr-weaker c.run_fronts.result _ _
    (λ e has asked is. (
    let r = words_of g.H.KeyHasher.hash_of (known_of asked) in
    plan_tells asked.ask.plan asked.ask.root c.args.run.runner.context.row_limit e is.well (has (known_of asked) (record {
      sound = sound_of r asked.ask c.args.run c.args.pipelines.items is;
      between = stand_between r asked.ask c.args.run c.args.pipelines.items is;
      root = stand_open r asked.ask c.args.run c.args.pipelines.items is;
    }))))
    c.run_fronts.ensures.err

pub returns-clause-kept : goal.returns-clause-kept
returns-clause-kept g c = c.run_fronts.ensures.kept
