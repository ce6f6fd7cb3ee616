use Rattle.std.proofs.Common.{sym, ◌∙◌}
use Rattle.pipe_passage.proofs.Stopped.{held-seats, held-stages, nil-told, none-once, some-told, stage-fewer, stage-held, stage-once, stage-rest}
use Rattle.pipe_passage.proofs.closing.close_passage.Goals as goal

pub stages-init : goal.stages-init
stages-init g c = record { held = c.requires.held; once = λ h. h }

pub returns-then-is_empty : goal.returns-then-is_empty
returns-then-is_empty g c = record { once = c.stages.invariant.once (none-once _ _ (nil-told c.stages.passage.shared.items _ c.stages.passage.shared.ok.0 (sym c.is_empty.ensures ∙ c.if-is_empty.true))) }

pub leave_stage-requires-clause-stages : goal.leave_stage-requires-clause-stages
leave_stage-requires-clause-stages g c = held-stages g.H.KeyHasher.hash_of _ _ _ c.stages.invariant.held (some-told c.stages.passage.shared.items _ c.stages.passage.shared.ok.0 (sym c.is_empty.ensures ∙ c.if-is_empty.false))

pub leave_stage-requires-clause-shared : goal.leave_stage-requires-clause-shared
leave_stage-requires-clause-shared g c = some-told c.stages.passage.shared.items _ c.stages.passage.shared.ok.0 (sym c.is_empty.ensures ∙ c.if-is_empty.false)

pub leave_stage-requires-clause-seats : goal.leave_stage-requires-clause-seats
leave_stage-requires-clause-seats g c = held-seats g.H.KeyHasher.hash_of _ _ _ c.stages.invariant.held (some-told c.stages.passage.shared.items _ c.stages.passage.shared.ok.0 (sym c.is_empty.ensures ∙ c.if-is_empty.false))

pub closed-requires : goal.closed-requires
closed-requires g c = stage-rest g.H.KeyHasher.hash_of c.in_ok-slot.slot c.in_ok-slot.seats _ _ _ _ _ _ c.in_ok-slot.ensures c.stages.invariant.held

pub stages-smaller : goal.stages-smaller
stages-smaller g c = stage-fewer g.H.KeyHasher.hash_of c.in_ok-slot.slot c.in_ok-slot.seats _ _ _ _ _ _ c.in_ok-slot.ensures c.stages.invariant.held

pub stages-preserved : goal.stages-preserved
stages-preserved g c = record {
  held = stage-held g.H.KeyHasher.hash_of c.in_ok-slot.slot c.in_ok-slot.seats _ _ _ _ _ _ c.in_ok-slot.ensures c.stages.invariant.held;
  once = λ h. c.stages.invariant.once (stage-once g.H.KeyHasher.hash_of c.in_ok-slot.slot c.in_ok-slot.seats _ _ _ _ _ _ c.in_ok-slot.ensures c.stages.invariant.held c.closed.result c.closed.ensures h);
}
