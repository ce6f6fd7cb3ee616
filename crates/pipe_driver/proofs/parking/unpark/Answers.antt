use Rattle.std.proofs.Common.{◌+◌, List, sym, ap, subst, ◌∙◌, arith}
use Rattle.pipe_driver.specs.declared.pipe_line.PipeLine.{PipeLine}
use Rattle.pipe_driver.specs.Runs.{Unparks, StartsElsewhere}
use Rattle.pipe_driver.proofs.Drives.{unparks_at, all_take, all_taken, same_get}
use Rattle.pipe_driver.proofs.parking.unpark.Goals as goal

pub returns-then-index-node-clause-some : goal.returns-then-index-node-clause-some
returns-then-index-node-clause-some g c =
    let Q : List (PipeLine g.row.S.Denot g.row.P.Denot) → Type 0 = λ ps. Unparks c.args.node c.remove.result ps c.remove.new.self.items in
    let i = c.loop-i.i in
    let same = same_get c.loop-i.parked.items i c.remove.result c.index.result.now (omega arith) in
    subst Q c.loop-i.invariant.same
    (unparks_at c.args.node c.remove.result c.loop-i.parked.items c.remove.new.self.items i (omega arith) c.remove.ensures.value
    (ap (λ p. p.start) (c.remove.ensures.value ∙ same ∙ sym c.index.ensures) ∙ c.if-index-node.true) c.remove.ensures.items)

pub returns-clause-none : goal.returns-clause-none
returns-clause-none g c = (c.loop-i.invariant.same, all_taken (StartsElsewhere c.args.node) c.loop-i.parked.items c.loop-i.i (omega arith) c.loop-i.invariant.none)

pub loop-i-preserved : goal.loop-i-preserved
loop-i-preserved g c = record {
  same = c.loop-i.invariant.same;
  none = all_take (StartsElsewhere c.args.node) c.loop-i.parked.items c.loop-i.i (c.loop-i.i + 1) c.index.result.now (omega arith) (omega arith) (λ e. c.if-index-node.false (ap (λ p. p.start) c.index.ensures ∙ e)) c.loop-i.invariant.none;
}
