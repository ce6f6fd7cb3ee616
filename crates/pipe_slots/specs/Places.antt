-- The place of a join's probe.
use Rattle.std.specs.Prelude.{ℕ}
use Rattle.pipe_table.specs.declared.spec.JoinSpec.{JoinSpec}

-- the node of the join, and its settings
pub record Place : Type 0 where
  pub node : ℕ
  pub spec : JoinSpec
