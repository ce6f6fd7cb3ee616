use Rattle.std.proofs.lemmas.Result.{IfOk-weaker}
use Rattle.pipe_passage.proofs.Probes.{operator-probe, operator-plain, plain-rest}
use Rattle.pipe_passage.proofs.Results.{always}
use Rattle.pipe_passage.proofs.opening.open_operator.Goals as goal

pub open_probe-requires-clause-suits : goal.open_probe-requires-clause-suits
open_probe-requires-clause-suits g c = rw c.in-PlaceHolder.is at c.requires.suits

pub returns-in_ok-probe-in-PlaceHolder-clause-opened : goal.returns-in_ok-probe-in-PlaceHolder-clause-opened
returns-in_ok-probe-in-PlaceHolder-clause-opened g c = rw c.in-PlaceHolder.is (operator-probe c.args.slot.now _ c.args.free.now _ _ (rw c.in-PlaceHolder.is at c.requires.suits) c.in_ok-probe-in-PlaceHolder.ensures.opened)

pub unreachable-requires : goal.unreachable-requires
unreachable-requires g c = rw c.in-CallBack.is at c.requires.planned

pub returns-in-Filter-clause-opened : goal.returns-in-Filter-clause-opened
returns-in-Filter-clause-opened g c = IfOk-weaker c.copied.result _ _ (λ made h. operator-plain g.H.KeyHasher.hash_of c.args.slot.now c.args.free.now c.args.operator.now made (rw c.in-Filter.is at c.requires.suits) c.requires.suits h) c.copied.ensures

pub returns-in-Filter-clause-rest : goal.returns-in-Filter-clause-rest
returns-in-Filter-clause-rest g c = always c.copied.result (plain-rest _ c.args.slot.now c.args.free.now (rw c.in-Filter.is at c.requires.suits))

pub returns-in-SimpleProjection-clause-opened : goal.returns-in-SimpleProjection-clause-opened
returns-in-SimpleProjection-clause-opened g c = IfOk-weaker c.copied-in-SimpleProjection.result _ _ (λ made h. operator-plain g.H.KeyHasher.hash_of c.args.slot.now c.args.free.now c.args.operator.now made (rw c.in-SimpleProjection.is at c.requires.suits) c.requires.suits h) c.copied-in-SimpleProjection.ensures

pub returns-in-SimpleProjection-clause-rest : goal.returns-in-SimpleProjection-clause-rest
returns-in-SimpleProjection-clause-rest g c = always c.copied-in-SimpleProjection.result (plain-rest _ c.args.slot.now c.args.free.now (rw c.in-SimpleProjection.is at c.requires.suits))

pub returns-in-Projection-clause-opened : goal.returns-in-Projection-clause-opened
returns-in-Projection-clause-opened g c = IfOk-weaker c.copied-in-Projection.result _ _ (λ made h. operator-plain g.H.KeyHasher.hash_of c.args.slot.now c.args.free.now c.args.operator.now made (rw c.in-Projection.is at c.requires.suits) c.requires.suits h) c.copied-in-Projection.ensures

pub returns-in-Projection-clause-rest : goal.returns-in-Projection-clause-rest
returns-in-Projection-clause-rest g c = always c.copied-in-Projection.result (plain-rest _ c.args.slot.now c.args.free.now (rw c.in-Projection.is at c.requires.suits))

pub returns-in-Hstack-clause-opened : goal.returns-in-Hstack-clause-opened
returns-in-Hstack-clause-opened g c = IfOk-weaker c.copied-in-Hstack.result _ _ (λ made h. operator-plain g.H.KeyHasher.hash_of c.args.slot.now c.args.free.now c.args.operator.now made (rw c.in-Hstack.is at c.requires.suits) c.requires.suits h) c.copied-in-Hstack.ensures

pub returns-in-Hstack-clause-rest : goal.returns-in-Hstack-clause-rest
returns-in-Hstack-clause-rest g c = always c.copied-in-Hstack.result (plain-rest _ c.args.slot.now c.args.free.now (rw c.in-Hstack.is at c.requires.suits))

pub returns-in-Function-clause-opened : goal.returns-in-Function-clause-opened
returns-in-Function-clause-opened g c = IfOk-weaker c.copied-in-Function.result _ _ (λ made h. operator-plain g.H.KeyHasher.hash_of c.args.slot.now c.args.free.now c.args.operator.now made (rw c.in-Function.is at c.requires.suits) c.requires.suits h) c.copied-in-Function.ensures

pub returns-in-Function-clause-rest : goal.returns-in-Function-clause-rest
returns-in-Function-clause-rest g c = always c.copied-in-Function.result (plain-rest _ c.args.slot.now c.args.free.now (rw c.in-Function.is at c.requires.suits))

pub returns-in-Pass-clause-opened : goal.returns-in-Pass-clause-opened
returns-in-Pass-clause-opened g c = IfOk-weaker c.copied-in-Pass.result _ _ (λ made h. operator-plain g.H.KeyHasher.hash_of c.args.slot.now c.args.free.now c.args.operator.now made (rw c.in-Pass.is at c.requires.suits) c.requires.suits h) c.copied-in-Pass.ensures

pub returns-in-Pass-clause-rest : goal.returns-in-Pass-clause-rest
returns-in-Pass-clause-rest g c = always c.copied-in-Pass.result (plain-rest _ c.args.slot.now c.args.free.now (rw c.in-Pass.is at c.requires.suits))
