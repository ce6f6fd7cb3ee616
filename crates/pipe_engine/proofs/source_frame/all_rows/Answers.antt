use Rattle.std.proofs.Common.{sym, ◌∙◌, arith}
use Rattle.pipe_driver.proofs.Drives.{no_items}
use Rattle.pipe_engine.proofs.Wholes.{taken_one}
use Rattle.pipe_engine.proofs.source_frame.all_rows.Goals as goal

pub returns-in_ok-frame-in-GotMoreData : goal.returns-in_ok-frame-in-GotMoreData
returns-in_ok-frame-in-GotMoreData c =
    taken_one 4 4294967295 0 c.args.source.now c.get_batches.new.self c.in-Ok.answer c.in-GotMoreData.chunks c.pop.new.self.items c.in-Some.chunk c.in_ok-frame-in-GotMoreData.frame
    (omega arith) c.in-Ok.ensures.gives c.in-GotMoreData.is c.in-Some.ensures.items (no_items c.pop.new.self (sym c.is_empty.ensures ∙ c.if-not-is_empty.false)) c.in_ok-frame-in-GotMoreData.ensures
