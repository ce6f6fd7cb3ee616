use Rattle.std.proofs.Common.{◌≡◌, length, subst, arith}
use Rattle.std.specs.Prelude.{All}
use Rattle.std.proofs.lemmas.List.{take_all}
use Rattle.pipe_schema.specs.Rows.{Row}
use Rattle.pipe_events.proofs.FitLemmas.{one-more}
use Rattle.pipe_replay.proofs.framing.are_of_width.Goals as goal

pub loop-row-preserved : goal.loop-row-preserved
loop-row-preserved c =
    one-more (λ (row : Row). length row ≡ c.args.width) c.args.rows.now c.loop-row.row-index c.row-item.result c.loop-row-test.true c.row-item.is c.loop-row.invariant (omega (arith, c.len.ensures, c.if-len-width.false))

pub returns : goal.returns
returns c = λ _.
    subst (All (λ (row : Row). length row ≡ c.args.width)) (take_all c.loop-row.row-index c.args.rows.now (omega (arith, c.loop-row-test.false))) c.loop-row.invariant
