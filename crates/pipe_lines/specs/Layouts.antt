-- What all pipelines of a plan are made of.
use Rattle.std.specs.Prelude.{◌≡◌, ℕ, ◌<◌}
use Rattle.pipe_rows.specs.Partition.{IsPartitionCount}
use Rattle.pipe_engine.specs.Stands.{Settings}
use Rattle.pipe_check.specs.Checked.{Checked}
use Rattle.pipe_convert.specs.Joins.{AreSpecs}
use Rattle.pipe_lines.specs.Made.{AreSinks, settings_in}
use Rattle.pipe_lines.specs.declared.layout.Layout.{Layout}

-- the spec of each join, and the sink of each place
pub record IsLayout {H : Type 0} (plan : Checked) (layout : Layout H) : Type 0 where
  pub specs : AreSpecs plan layout.specs.items
  pub sinks : AreSinks plan layout.specs.items layout.hasher layout.parts layout.sinks.items

abbrev pub layout_settings : {H : Type 0} → Checked → Layout H → Settings H
layout_settings plan layout =
    settings_in plan layout.specs.items layout.sinks.items layout.hasher layout.parts

-- as many partitions as the workers ask for
pub record IsLayoutFor {H : Type 0} (plan : Checked) (workers : ℕ) (hasher : H)
    (layout : Layout H) : Type 0 where
  pub is : IsLayout plan layout
  pub hasher_is : layout.hasher ≡ hasher
  pub parts : IsPartitionCount workers layout.parts
