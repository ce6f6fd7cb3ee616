use Rattle.std.proofs.Common.{rules}
use Rattle.crossbeam_queue.specs.Passes.{view}
use Rattle.pipe_stream.specs.declared.message.News.TheVariants as news
use Rattle.pipe_stream.proofs.HandLemmas.{gets}
use Rattle.pipe_stream.proofs.StepLemmas.{block_fits, block_steps, gave_up, taken_as, taken_last}
use Rattle.pipe_stream.proofs.caller.take_one.Goals as goal

pub try_pop_as-requires-clause-rule : goal.try_pop_as-requires-clause-rule
try_pop_as-requires-clause-rule g c = gets _ _ c.requires.takes

pub put_next-requires : goal.put_next-requires
put_next-requires g c =
    block_fits _ _ _ _ _ _ _ _ c.requires.count c.requires.standing
    (taken_as (view c.args.seat.now) (view c.try_pop_as.new.pass) c.in-Some.message (news.Block c.in-Block.number c.in-Block.text) (search rules) (search rules))

pub returns-in-Block-clause-steps : goal.returns-in-Block-clause-steps
returns-in-Block-clause-steps g c =
    block_steps _ _ c.args.progress.now c.put_next.new.progress _ _ c.in-Some.message.odd c.in-Block.number c.in-Block.text _ _ _ c.requires.standing
    (taken_as (view c.args.seat.now) (view c.try_pop_as.new.pass) c.in-Some.message (news.Block c.in-Block.number c.in-Block.text) (search rules) (search rules))
    (search rules)

pub returns-then-whole-clause-standing : goal.returns-then-whole-clause-standing
returns-then-whole-clause-standing g c =
    taken_last _ _ _ _ _ _ c.in-Some.message.odd c.in-Last.whole (search rules) c.requires.standing
    (taken_as (view c.args.seat.now) (view c.try_pop_as.new.pass) c.in-Some.message (news.Last c.in-Last.whole) (search rules) (search rules))
    c.end.ensures

pub returns-else-whole-clause-steps : goal.returns-else-whole-clause-steps
returns-else-whole-clause-steps g c = gave_up _ _ _ _ _ _ c.requires.standing
