use Rattle.std.proofs.Common.{◌≡◌, sym, subst, arith}
use Rattle.std.specs.Prelude.{IfOk, Option}
use Rattle.std.proofs.lemmas.Result.{IfOk-weaker}
use Rattle.pipe_frame.specs.Frame.{Table}
use Rattle.pipe_chain.proofs.Weighing.{rows-length}
use Rattle.pipe_engine.specs.Engine.{fed_rows, rows_of_leg}
use Rattle.pipe_engine.specs.Wholes.{HasSameRows, newer_whole}
use Rattle.pipe_engine.proofs.Asked.{asked-less}
use Rattle.pipe_engine.proofs.Calls.{counted, few_counted}
use Rattle.pipe_engine.proofs.Wholes.{frame_taken}
use Rattle.pipe_engine.proofs.keeping.take_in.Goals as goal

pub keep-requires-clause-few : goal.keep-requires-clause-few
keep-requires-clause-few g c = λ κs lives.
    let p = c.args.passage in
    let held = counted g.H.KeyHasher.hash_of c.args.context.now.row_limit c.requires.way.from p.lanes.items p.shared.items p.seats.items c.requires.way.passing c.requires.left in
    let few = few_counted g.H.KeyHasher.hash_of c.args.context.now.row_limit c.requires.way.from p.lanes.items p.shared.items p.seats.items c.requires.way.passing in
    let S : Option Table → Type 0 = HasSameRows (rows_of_leg p) in
    let same = rows-length (subst S c.in-Some.is c.requires.same) in
    omega (arith, held, few, same)

pub returns-in-None-clause-whole : goal.returns-in-None-clause-whole
returns-in-None-clause-whole g c =
    let W : Option Table → Type 0 = λ w. IfOk c.combine.result (λ new. new.whole ≡ newer_whole c.args.fed.whole w) in
    subst W (sym c.in-None.is) c.combine.ensures.whole

pub returns-in-None-clause-asked : goal.returns-in-None-clause-asked
returns-in-None-clause-asked g c =
    let some = c.requires.way.passing.some in
    asked-less g.C.StopCheck _ 1 _ _ _ (omega (arith, some)) c.combine.ensures.asked

pub returns-in-Some-clause-rows : goal.returns-in-Some-clause-rows
returns-in-Some-clause-rows g c =
    let S : Option Table → Type 0 = HasSameRows (rows_of_leg c.args.passage) in
    IfOk-weaker c.keep.result _ _ (λ new rows. frame_taken (fed_rows c.args.fed) (fed_rows new) (rows_of_leg c.args.passage) c.in-Some.frame.rows rows (subst S c.in-Some.is c.requires.same)) c.keep.ensures.rows
