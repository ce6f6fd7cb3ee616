use Rattle.std.proofs.Common.{refl, ◌∙◌}
use Rattle.pipe_optimize.proofs.Whole.{whole-long, whole-root}
use Rattle.pipe_optimize.proofs.trimming.node_needs.Goals as goal

pub pass_needs-requires-clause-long : goal.pass_needs-requires-clause-long
pass_needs-requires-clause-long c = whole-long _ _ _ (c.as_mut_slice.ensures.value ∙ c.in_ok-needs.ensures) refl

pub pass_needs-requires-clause-whole : goal.pass_needs-requires-clause-whole
pass_needs-requires-clause-whole c = whole-root _ _ _ _ _ (c.as_mut_slice.ensures.value ∙ c.in_ok-needs.ensures) refl c.requires.there
