use Rattle.std.proofs.Common.{refl, arith}
use Rattle.pipe_engine.proofs.Closes.{closed_all, closed_next, may_close}
use Rattle.pipe_engine.proofs.refused.close_slots.Goals as goal

pub loop-node-init : goal.loop-node-init
loop-node-init g c = record { closed = record { long = refl; seated = refl; done = λ k lt. absurd (omega arith); slots = λ k le. refl; seats = λ k le. refl } }

pub close_probe-requires-clause-there : goal.close_probe-requires-clause-there
close_probe-requires-clause-there g c = let l = c.loop-node.invariant.closed.long in let n = c.requires.nodes in omega arith

pub close_probe-requires-clause-seats_there : goal.close_probe-requires-clause-seats_there
close_probe-requires-clause-seats_there g c = let l = c.loop-node.invariant.closed.seated in let n = c.requires.seated in omega arith

pub close_probe-requires-clause-in_all : goal.close_probe-requires-clause-in_all
close_probe-requires-clause-in_all g c = may_close _ _ c.loop-node.node c.loop-node.invariant.closed (c.requires.rest c.loop-node.node)

pub loop-node-preserved : goal.loop-node-preserved
loop-node-preserved g c = record { closed = closed_next _ _ _ c.loop-node.node c.loop-node.invariant.closed (c.requires.rest c.loop-node.node) c.close_probe.ensures.closed c.close_probe.ensures.slots c.close_probe.ensures.seats c.close_probe.ensures.length c.close_probe.ensures.seats_length }

pub returns : goal.returns
returns g c = closed_all _ _ c.loop-node.node c.loop-node.invariant.closed (omega (arith, c.loop-node-test.false, c.requires.nodes))
