use Rattle.std.proofs.Common.{◌≡◌, ℕ, suc, ◌+◌, ◌-◌, ◌<◌, length, sym, subst, arith}
use Rattle.pipe_frame.specs.declared.chunk.DataChunk.{DataChunk}
use Rattle.pipe_ops.specs.Pieces.{IsFirstOf}
use Rattle.worked_lanes.specs.Repeats.{copies}
use Rattle.worked_lanes.proofs.Copies.{copies-none, copies-more}
use Rattle.worked_lanes.proofs.lanes.repeat.RepeatOperator.execute.Goals as goal

pub returns-then-height-eq0-clause-gives : goal.returns-then-height-eq0-clause-gives
returns-then-height-eq0-clause-gives c =
    copies-none (c.args.self.now.times - c.args.self.now.given) c.args.chunk.now.frame.rows (omega (arith, c.height.ensures, c.if-height-eq0.true))

pub returns-clause-gives : goal.returns-clause-gives
returns-clause-gives c =
    let rows = c.args.chunk.now.frame.rows in
    let n = c.args.self.now.times - c.args.self.now.given in
    let m = c.args.self.now.times - (c.args.self.now.given + 1) in
    let here : 0 < length rows = omega (arith, c.height.ensures, c.if-height-eq0.false) in
    let left : n ≡ suc m = omega (arith, c.saturating_sub-left.ensures, c.if-left-eq0.false) in
    let more : 0 < m = omega (arith, c.saturating_sub-left.ensures, c.if-left-eq0.false, c.if-left-eq1.false) in
    subst (λ (p : DataChunk). IsFirstOf (copies n rows) p.frame.rows (copies m rows)) (sym c.in_ok-piece.ensures) (copies-more n m rows left more here)
